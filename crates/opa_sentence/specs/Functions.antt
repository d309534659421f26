-- The functions of the grammar.
use Rattle.std.specs.Prelude.{ℕ, ◌-◌, ◌==◌, nat_lt, true, false, List, Option, Some, None, codes, if◌then◌else◌}
use Rattle.std.specs.Option.{option_map, option_or}
use Rattle.std.specs.Str.{bytes_eq}
use Rattle.opa_tree.specs.declared.kinds.OpKind.{OpKind}
use Rattle.opa_tree.specs.declared.kinds.OpKind.TheVariants as op
use Rattle.opa_tree.specs.declared.kinds.Quant.{Quant}
use Rattle.opa_tree.specs.declared.kinds.Quant.TheVariants as quant
use Rattle.opa_tree.specs.declared.kinds.WinKind.{WinKind}
use Rattle.opa_tree.specs.declared.kinds.WinKind.TheVariants as win
use Rattle.opa_tree.specs.Trees.{op_arity, quant_arity, window_arity}
use Rattle.opa_sentence.specs.declared.functions.Function.{Function}
use Rattle.opa_sentence.specs.declared.functions.Function.TheVariants as function
use Rattle.opa_sentence.specs.declared.functions.Argument.{Argument}
use Rattle.opa_sentence.specs.declared.functions.Argument.TheVariants as argument

abbrev pub operation_named : List ℕ → Option OpKind
operation_named name =
    if bytes_eq name (codes "Round") then Some op.Round else
    if bytes_eq name (codes "Minimum") then Some op.Min else
    if bytes_eq name (codes "Maximum") then Some op.Max else
    if bytes_eq name (codes "AddDays") then Some op.AddDays else
    if bytes_eq name (codes "AddMonths") then Some op.AddMonths else
    if bytes_eq name (codes "AddYears") then Some op.AddYears else
    if bytes_eq name (codes "DaysBetween") then Some op.DaysBetween else
    if bytes_eq name (codes "YearsBetween") then Some op.YearsBetween else
    if bytes_eq name (codes "YearOf") then Some op.YearOf else
    if bytes_eq name (codes "MonthOf") then Some op.MonthOf else
    if bytes_eq name (codes "DayOf") then Some op.DayOf else
    if bytes_eq name (codes "Concatenate") then Some op.Concatenate else
    None

abbrev pub listed_named : List ℕ → Option Quant
listed_named name =
    if bytes_eq name (codes "ForAll") then Some quant.ForAll else
    if bytes_eq name (codes "Exists") then Some quant.Exists else
    if bytes_eq name (codes "For") then Some quant.For else
    if bytes_eq name (codes "InstanceCount") then Some quant.Count else
    if bytes_eq name (codes "InstanceCountIf") then Some quant.CountIf else
    if bytes_eq name (codes "InstanceSum") then Some quant.Sum else
    if bytes_eq name (codes "InstanceSumIf") then Some quant.SumIf else
    if bytes_eq name (codes "InstanceMaximum") then Some quant.Maximum else
    if bytes_eq name (codes "InstanceMinimum") then Some quant.Minimum else
    None

abbrev pub window_named : List ℕ → Option WinKind
window_named name =
    if bytes_eq name (codes "ValueAt") then Some win.ValueAt else
    if bytes_eq name (codes "IntervalAlways") then Some win.Always else
    if bytes_eq name (codes "IntervalSometimes") then Some win.Sometimes else
    if bytes_eq name (codes "IntervalDailySum") then Some win.DailySum else
    if bytes_eq name (codes "IntervalMaximum") then Some win.Maximum else
    if bytes_eq name (codes "IntervalMinimum") then Some win.Minimum else
    if bytes_eq name (codes "IntervalConsecutiveDays") then Some win.ConsecutiveDays else
    if bytes_eq name (codes "TemporalBefore") then Some win.Before else
    if bytes_eq name (codes "TemporalOnOrAfter") then Some win.OnOrAfter else
    if bytes_eq name (codes "TemporalYearsSince") then Some win.YearsSince else
    None

abbrev pub other_named : List ℕ → Option Function
other_named name =
    if bytes_eq name (codes "Certain") then Some function.Certain else
    if bytes_eq name (codes "CurrentlyKnown") then Some function.Known else
    if bytes_eq name (codes "TemporalAlwaysDays") then Some (function.Rolling true) else
    if bytes_eq name (codes "TemporalSometimesDays") then Some (function.Rolling false) else
    None

-- the function of a name
abbrev pub function_named : List ℕ → Option Function
function_named name = option_or (option_map (λ k. function.Op k) (operation_named name)) (option_or (option_map (λ q. function.Over q) (listed_named name)) (option_or (option_map (λ k. function.Window k) (window_named name)) (other_named name)))

-- one of so many lines
abbrev pub line_at : ℕ → ℕ → Option Argument
line_at count n = if nat_lt n count then Some argument.Line else None

-- what stands in place n of an operation: `Round` has a line and a number
abbrev pub operand_at : OpKind → ℕ → Option Argument
operand_at op.Round n = if n == 1 then Some argument.Number else line_at 1 n
operand_at k n = line_at (op_arity k) n

-- what is written in place n, counted from 0, between a function's brackets
abbrev pub argument_at : Function → ℕ → Option Argument
argument_at (function.Op k) n = operand_at k n
argument_at function.Certain n = line_at 1 n
argument_at function.Known n = line_at 1 n
argument_at (function.Over q) n = if n == 0 then Some argument.Relation else line_at (quant_arity q) (n - 1)
argument_at (function.Window k) n = line_at (window_arity k) n
argument_at (function.Rolling always) n = if n == 0 then Some argument.Number else line_at 1 (n - 1)
