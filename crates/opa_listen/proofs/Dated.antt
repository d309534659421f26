-- A value whose day is of the calendar.
use Rattle.std.proofs.Common.{refl}
use Rattle.opa_value.specs.declared.value.Value.{Value}
use Rattle.opa_value.specs.declared.value.Value.TheVariants as value
use Rattle.opa_text.specs.Texts.{IsOfCalendar}
use Rattle.opa_listen.specs.Days.{IsInCalendar}

pub in_calendar : (v : Value) → IsInCalendar v → IsOfCalendar v
in_calendar value.Unknown h = tt
in_calendar value.Uncertain h = tt
in_calendar (value.Bool b) h = tt
in_calendar (value.Num n) h = tt
in_calendar (value.Words t) h = tt
in_calendar (value.Day d) h = h d refl
