-- Functions over time by the number of their operands, and what two dates tell.
use Rattle.std.specs.Prelude.{ℕ, Bool, true, false, List}
use Rattle.opa_value.specs.declared.value.Value.{Value}
use Rattle.opa_value.specs.declared.value.Value.TheVariants.{Uncertain}
use Rattle.opa_value.specs.Truth.{all_of, any_of, strict}
use Rattle.opa_tree.specs.declared.kinds.WinKind.{WinKind}
use Rattle.opa_tree.specs.declared.kinds.WinKind.TheVariants as win
use Rattle.opa_window.specs.Folds.{sum_value, greatest, least, run_value}
use Rattle.opa_window.specs.Windows.{before, on_or_after, years_since}
use Rattle.opa_mean.specs.declared.spans.Dates.{Dates}
use Rattle.opa_mean.specs.declared.spans.Dates.TheVariants.{Open, Between}

-- those of one date
abbrev pub dated : WinKind → Value → ℕ → Value
dated win.Before date d = before date d
dated win.OnOrAfter date d = on_or_after date d
dated win.YearsSince date d = years_since date d
dated _ date d = Uncertain

abbrev pub has_span : WinKind → Bool
has_span win.Always = true
has_span win.Sometimes = true
has_span win.DailySum = true
has_span win.Maximum = true
has_span win.Minimum = true
has_span win.ConsecutiveDays = true
has_span _ = false

-- what those of two dates make of the values of their window
abbrev pub span_fold : WinKind → List Value → Value
span_fold win.Always vs = all_of vs
span_fold win.Sometimes vs = any_of vs
span_fold win.DailySum vs = strict sum_value vs
span_fold win.Maximum vs = strict greatest vs
span_fold win.Minimum vs = strict least vs
span_fold win.ConsecutiveDays vs = strict run_value vs
span_fold _ vs = Uncertain

-- the value that the dates tell, else what f makes of the days
abbrev pub by_dates : Dates → (ℕ → ℕ → Value) → Value
by_dates (Open v) f = v
by_dates (Between span) f = f span.0 span.1
