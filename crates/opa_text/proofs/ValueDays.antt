-- A value of a kind is within the calendar.
use Rattle.std.proofs.Common.{◌≡◌, true}
use Rattle.std.proofs.lemmas.Bool.{and_parts, ltb-true}
use Rattle.opa_date.specs.declared.TheConstants.{DAYS}
use Rattle.opa_value.specs.declared.value.Value.{Value}
use Rattle.opa_value.specs.declared.value.Value.TheVariants as value
use Rattle.opa_model.specs.declared.things.Kind.{Kind}
use Rattle.opa_case.specs.Steps.{is_date, has_kind}
use Rattle.opa_text.specs.Texts.{IsOfCalendar}

-- its days are days
pub value_days : (k : Kind) (v : Value) → has_kind k v ≡ true → IsOfCalendar v
value_days k value.Unknown h = tt
value_days k value.Uncertain h = tt
value_days k (value.Bool b) h = tt
value_days k (value.Num n) h = tt
value_days k (value.Words t) h = tt
value_days k (value.Day d) h = ltb-true d DAYS (and_parts (is_date k) _ h).1
