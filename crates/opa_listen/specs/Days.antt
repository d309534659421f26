-- Days that values hold.
use Rattle.std.specs.Prelude.{◌≡◌, ◌<◌, ℕ}
use Rattle.opa_value.specs.declared.value.Value.{Value}
use Rattle.opa_value.specs.declared.value.Value.TheVariants as value
use Rattle.opa_date.specs.declared.TheConstants.{DAYS}

-- a value that is a day is one of the calendar
abbrev pub IsInCalendar : Value → Type 0
IsInCalendar v = (d : ℕ) → v ≡ value.Day d → d < DAYS
