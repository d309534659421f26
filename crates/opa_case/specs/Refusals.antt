-- The refusals of changes, and their numbers.
use Rattle.std.specs.Prelude.{ℕ, Option, None, Some, Result, Ok, Err}
use Rattle.opa_case.specs.declared.change.Refusal.{Refusal}
use Rattle.opa_case.specs.declared.change.Refusal.TheVariants.{Name, Kind, Range, Limit, NoMemory}

-- 1 to 4; want of memory has none
abbrev pub number_of : Refusal → ℕ
number_of Name = 1
number_of Kind = 2
number_of Range = 3
number_of Limit = 4
number_of NoMemory = 0

-- why a change is refused; none where it isn't
abbrev pub refusal_of : {X : Type 0} → Result X Refusal → Option Refusal
refusal_of (Ok x) = None
refusal_of (Err e) = Some e
