-- The signs and the names that stand in a line.
use Rattle.std.specs.Prelude.{ℕ, List, Bool, true, false, codes}
use Rattle.opa_tree.specs.declared.kinds.OpKind.{OpKind}
use Rattle.opa_tree.specs.declared.kinds.OpKind.TheVariants as op
use Rattle.opa_tree.specs.declared.kinds.Quant.{Quant}
use Rattle.opa_tree.specs.declared.kinds.Quant.TheVariants as quant
use Rattle.opa_tree.specs.declared.kinds.WinKind.{WinKind}
use Rattle.opa_tree.specs.declared.kinds.WinKind.TheVariants as win
use Rattle.opa_words.specs.Pieces.{Piece, word, symbol}

-- an operation that is written between its operands
abbrev pub is_infix : OpKind → Bool
is_infix op.Add = true
is_infix op.Sub = true
is_infix op.Mul = true
is_infix op.Div = true
is_infix op.Eq = true
is_infix op.Ne = true
is_infix op.Lt = true
is_infix op.Le = true
is_infix op.Gt = true
is_infix op.Ge = true
is_infix k = false

-- its sign, or its name
abbrev pub op_text : OpKind → List ℕ
op_text op.Add = codes "+"
op_text op.Sub = codes "-"
op_text op.Mul = codes "*"
op_text op.Div = codes "/"
op_text op.Neg = codes "-"
op_text op.Eq = codes "="
op_text op.Ne = codes "<>"
op_text op.Lt = codes "<"
op_text op.Le = codes "<="
op_text op.Gt = codes ">"
op_text op.Ge = codes ">="
op_text op.Round = codes "Round"
op_text op.Min = codes "Minimum"
op_text op.Max = codes "Maximum"
op_text op.AddDays = codes "AddDays"
op_text op.AddMonths = codes "AddMonths"
op_text op.AddYears = codes "AddYears"
op_text op.DaysBetween = codes "DaysBetween"
op_text op.YearsBetween = codes "YearsBetween"
op_text op.YearOf = codes "YearOf"
op_text op.MonthOf = codes "MonthOf"
op_text op.DayOf = codes "DayOf"
op_text op.Concatenate = codes "Concatenate"

-- the token before the brackets of an operation that isn't written between its operands
abbrev pub op_piece : OpKind → Piece
op_piece op.Neg = symbol (op_text op.Neg)
op_piece k = word (op_text k)

abbrev pub quant_text : Quant → List ℕ
quant_text quant.ForAll = codes "ForAll"
quant_text quant.Exists = codes "Exists"
quant_text quant.For = codes "For"
quant_text quant.Count = codes "InstanceCount"
quant_text quant.CountIf = codes "InstanceCountIf"
quant_text quant.Sum = codes "InstanceSum"
quant_text quant.SumIf = codes "InstanceSumIf"
quant_text quant.Maximum = codes "InstanceMaximum"
quant_text quant.Minimum = codes "InstanceMinimum"

abbrev pub window_text : WinKind → List ℕ
window_text win.ValueAt = codes "ValueAt"
window_text win.Always = codes "IntervalAlways"
window_text win.Sometimes = codes "IntervalSometimes"
window_text win.DailySum = codes "IntervalDailySum"
window_text win.Maximum = codes "IntervalMaximum"
window_text win.Minimum = codes "IntervalMinimum"
window_text win.ConsecutiveDays = codes "IntervalConsecutiveDays"
window_text win.Before = codes "TemporalBefore"
window_text win.OnOrAfter = codes "TemporalOnOrAfter"
window_text win.YearsSince = codes "TemporalYearsSince"

abbrev pub rolling_text : Bool → List ℕ
rolling_text true = codes "TemporalAlwaysDays"
rolling_text false = codes "TemporalSometimesDays"
