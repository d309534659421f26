-- Printed lines whose days are of the calendar, and whose last day isn't before the first.
use Rattle.std.specs.Prelude.{◌<◌, ◌≤◌}
use Rattle.opa_date.specs.declared.TheConstants.{DAYS}
use Rattle.opa_text.specs.Texts.{IsOfCalendar}
use Rattle.opa_verify.specs.declared.spelling.printed.Printed.{Printed}
use Rattle.opa_verify.specs.declared.spelling.printed.Printed.TheVariants as printed

abbrev pub IsDated : Printed → Type 0
IsDated (printed.Point p s t k v o) = (s ≤ t) × ((t < DAYS) × IsOfCalendar v)
IsDated (printed.Members p names) = Unit {0}
IsDated (printed.Member p n) = Unit {0}
