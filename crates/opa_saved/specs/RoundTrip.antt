-- A case that is saved and loaded again.
use Rattle.std.specs.Prelude.{◌≡◌, ◌≤◌, ◌<◌, ℕ, nat_lt, Bool, true, false, List, Some, length}
use Rattle.std.specs.List.{list_all, list_any, AllByRecursion}
use Rattle.std.specs.FinMap.{get, len}
use Rattle.opa_date.specs.declared.TheConstants.{DAYS}
use Rattle.opa_value.specs.declared.value.Value.{Value}
use Rattle.opa_value.specs.declared.value.Value.TheVariants as value
use Rattle.opa_value.specs.Numbers.{InRange}
use Rattle.opa_line.specs.Lines.{IsLine}
use Rattle.opa_model.specs.declared.ids.AttrId.{AttrId}
use Rattle.opa_model.specs.declared.ids.RelId.{RelId}
use Rattle.opa_model.specs.declared.lists.Lists.{Lists}
use Rattle.opa_model.specs.Models.{IsModel}
use Rattle.opa_cells.specs.declared.instance.InstanceId.{InstanceId}
use Rattle.opa_case.specs.Shapes.{shape_of, attribute_or}
use Rattle.opa_case.specs.Live.{Names, members}
use Rattle.opa_case.specs.Cases.{CaseView, Answer}
use Rattle.opa_case.specs.Clean.{IsClean}
use Rattle.opa_case.specs.Fits.{Known, Answered, Fits}
use Rattle.opa_case.specs.Steps.{in_bounds, is_full}
use Rattle.opa_saved.specs.declared.loaded.Origin.TheVariants.{Same}
use Rattle.opa_saved.specs.Loading.{is_long_text, IsLoaded}
use Rattle.opa_saved.specs.Saved.{saved_data, ReadsAs}
use Rattle.opa_io.specs.declared.limits.TheConstants.{MOST_POINTS, MOST_INSTANCE_NAME, MOST_ANSWERS}

-- a number is in its range
abbrev pub IsValue : Value → Type 0
IsValue (value.Num n) = InRange n
IsValue v = Unit {0}

-- the pairs of a line, whose numbers are in their range
abbrev pub IsLineOfValues : Answer → Type 0
IsLineOfValues line = IsLine DAYS line × AllByRecursion (λ (p : ℕ × Value). IsValue p.1) line

-- what is answered at a key, if anything is, is such a line
abbrev pub HasLineAt : CaseView → ℕ → InstanceId → Type 0
HasLineAt c n i = (line : Answer) → get c.answers (n, i) ≡ Some line → IsLineOfValues line

-- so are the answers of the first attributes at live instances
abbrev pub HaveLines : Lists → CaseView → ℕ → Type 0
HaveLines m c count = (n : ℕ) → n < count → AllByRecursion (HasLineAt c n) (members (attribute_or m (record { 0 = n })).entity.0 c.live)

-- Answers are lines of values, as those of each case are.
abbrev pub HasLines : CaseView → Type 0
HasLines c = (n : ℕ) (i : InstanceId) → HasLineAt c n i

-- The case is within its attributes' bounds and the limits.
pub record IsWithin (m : Lists) (ruled : List Bool) (c : CaseView) : Type 0 where
  pub bounds : (a : AttrId) (i : InstanceId) (line : Answer) → Answered c.answers a i line → list_all (λ p. in_bounds (attribute_or m a) p.1) line ≡ true
  pub pairs : (a : AttrId) (i : InstanceId) (line : Answer) → Answered c.answers a i line → length line ≤ MOST_POINTS
  pub texts : (a : AttrId) (i : InstanceId) (line : Answer) → Answered c.answers a i line → list_any (λ p. is_long_text p.1) line ≡ false
  pub names : (r : RelId) (i : InstanceId) (names : Names) → Known c.lists r i names → list_any (λ n. nat_lt MOST_INSTANCE_NAME (length n)) names ≡ false
  pub size : is_full (shape_of m) ruled c.live ≡ false
  pub answers : len c.answers ≤ MOST_ANSWERS

-- A saved case is loaded as it was, from this model.
abbrev pub SavedLoads : Type 0
SavedLoads = (m : Lists) (ruled : List Bool) (c : CaseView) (bytes : List ℕ) → IsModel m → Fits (shape_of m) ruled c → IsClean c → HasLines c → IsWithin m ruled c → ReadsAs bytes (saved_data m c) → IsLoaded m ruled bytes c Same

-- These bytes are loaded as the case, where it is clean and within bounds and limits.
abbrev pub LoadsBack : Lists → CaseView → List ℕ → Type 0
LoadsBack m c bytes = (ruled : List Bool) → Fits (shape_of m) ruled c → IsClean c → IsWithin m ruled c → IsLoaded m ruled bytes c Same
