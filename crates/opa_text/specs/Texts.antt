-- The texts of values and of lines.
use Rattle.std.specs.Prelude.{◌≡◌, ℕ, ◌<◌, Some, ℤ, List, [], ◌∷◌, ◌++◌, Bool, codes, if◌then◌else◌}
use Rattle.opa_value.specs.declared.value.Value.{Value}
use Rattle.opa_value.specs.declared.value.Value.TheVariants as value
use Rattle.opa_value.specs.NumberText.{plain_text, money_text}
use Rattle.opa_date.specs.declared.TheConstants.{DAYS}
use Rattle.opa_date.specs.Texts.{day_text}
use Rattle.opa_line.specs.Lines.{at}
use Rattle.opa_words.specs.Kinds.{quoted}
use Rattle.opa_model.specs.declared.things.Kind.{Kind}
use Rattle.opa_model.specs.declared.things.Kind.TheVariants as kind

-- a day that a value holds is of the calendar
abbrev pub IsOfCalendar : Value → Type 0
IsOfCalendar (value.Day d) = d < DAYS
IsOfCalendar v = Unit {0}

-- at each day a line has such a value
abbrev pub HasDays : List (ℕ × Value) → Type 0
HasDays l = (d : ℕ) (v : Value) → d < DAYS → at l d ≡ Some v → IsOfCalendar v

-- a currency has two decimals, another number those that it needs
abbrev pub number_text : Kind → ℤ → List ℕ
number_text kind.Currency n = money_text n
number_text k n = plain_text n

abbrev pub bool_text : Bool → List ℕ
bool_text b = if b then codes "true" else codes "false"

abbrev pub value_text : Kind → Value → List ℕ
value_text k value.Unknown = codes "unknown"
value_text k value.Uncertain = codes "uncertain"
value_text k (value.Bool b) = bool_text b
value_text k (value.Num n) = number_text k n
value_text k (value.Words t) = quoted t
value_text k (value.Day d) = day_text d

-- `; from DATE VALUE`
abbrev pub change_text : Kind → ℕ × Value → List ℕ
change_text k p = codes "; from " ++ (day_text p.0 ++ 32 ∷ value_text k p.1)

abbrev pub changes_text : Kind → List (ℕ × Value) → List ℕ
changes_text k [] = []
changes_text k (p ∷ ps) = change_text k p ++ changes_text k ps

-- the first value, and then the changes
abbrev pub line_text : Kind → List (ℕ × Value) → List ℕ
line_text k [] = []
line_text k (p ∷ ps) = value_text k p.1 ++ changes_text k ps
