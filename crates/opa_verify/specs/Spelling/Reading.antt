-- What is read of a text.
use Rattle.std.specs.Prelude.{◌≡◌, ◌<◌, ◌≤◌, ℕ, ℤ, List, ◌++◌, codes}
use Rattle.std.specs.Int.RustNames.{unsigned_abs}
use Rattle.std.specs.List.{AllByRecursion}
use Rattle.opa_date.specs.declared.TheConstants.{DAYS}
use Rattle.opa_model.specs.declared.things.Kind.{Kind}
use Rattle.opa_value.specs.declared.value.Value.{Value}
use Rattle.opa_value.specs.Numbers.{InRange}
use Rattle.opa_text.specs.Laws.{CanBeWritten, HasDecimals}
use Rattle.opa_text.specs.Texts.{value_text, number_text}
use Rattle.opa_verify.specs.declared.spelling.printed.Spelled.{Spelled}
use Rattle.opa_verify.specs.declared.spelling.printed.Spot.{Spot}
use Rattle.opa_verify.specs.declared.spelling.told.Told.{Told}
use Rattle.opa_verify.specs.declared.spelling.reading.Reading.{Reading}
use Rattle.opa_verify.specs.declared.spelling.reading.Reading.TheVariants as reading
use Rattle.opa_verify.specs.Spelling.Dated.{IsDated}
use Rattle.opa_verify.specs.Spelling.Lines.{lined}
use Rattle.opa_verify.specs.Spelling.Printed.{spelled_text, days_text, told_text, head_line}
use Rattle.opa_verify.specs.Spelling.Spelling.{IsSpelled, IsSpot, IsOrigin, IsUnspelledAt}
use Rattle.opa_date.specs.Texts.{day_text}

-- what is printed has this text, and can be printed
pub record IsTextOf (text : List ℕ) (s : Spelled) : Type 0 where
  pub is : spelled_text s ≡ text
  pub spelled : IsSpelled s
  pub day : s.day < DAYS
  pub dated : AllByRecursion IsDated s.printed

-- what was read whole has the text, or the text isn't spelled and this line breaks it first
abbrev pub IsReadFrom : List ℕ → Reading → Type 0
IsReadFrom text (reading.Whole s) = IsTextOf text s
IsReadFrom text (reading.BrokenAt k) = IsUnspelledAt (lined text) k

-- ---- parts of lines

-- a value, with a kind as whose it is printed
abbrev pub IsShown : Kind × Value → Type 0
IsShown x = CanBeWritten x.0 x.1

abbrev pub shown_text : Kind × Value → List ℕ
shown_text x = value_text x.0 x.1

-- a number, with a kind as whose it is printed
abbrev pub IsNumber : Kind × ℤ → Type 0
IsNumber x = InRange x.1 × HasDecimals x.0 (unsigned_abs x.1)

abbrev pub number_shown : Kind × ℤ → List ℕ
number_shown x = number_text x.0 x.1

-- a value with its origin
abbrev pub IsTold : Told → Type 0
IsTold x = CanBeWritten x.kind x.value × IsOrigin x.origin

abbrev pub told_of : Told → List ℕ
told_of x = told_text x.kind x.value x.origin

-- a first and a last day, and what follows them
abbrev pub AreDays : ℕ → ℕ → List ℕ → List ℕ → Type 0
AreDays s t told text = (s ≤ t) × ((t < DAYS) × (text ≡ codes " " ++ (days_text s t ++ (codes ": " ++ told))))

-- a day at the front of a text, and what follows it
abbrev pub IsDayBefore : ℕ → List ℕ → List ℕ → Type 0
IsDayBefore d rest text = (d < DAYS) × (text ≡ day_text d ++ rest)

-- a point and a day
abbrev pub IsPointAt : List ℕ → ℕ → List ℕ → Type 0
IsPointAt point d text = (d < DAYS) × (text ≡ point ++ (codes " at " ++ day_text d))

-- the point and the day of a first line
abbrev pub IsAsked : Spot × ℕ → Type 0
IsAsked x = IsSpot x.0 × (x.1 < DAYS)

abbrev pub asked_line : Spot × ℕ → List ℕ
asked_line x = head_line x.0 x.1
