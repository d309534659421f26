-- Which lists may be others in another case.
use Rattle.std.specs.Prelude.{◌≡◌, ◌⊎◌, ◌==◌, ◌&&◌, not, ℕ, Bool, true, List, Contains}
use Rattle.opa_model.specs.declared.ids.RelId.{RelId}
use Rattle.opa_cells.specs.declared.instance.InstanceId.{InstanceId}
use Rattle.opa_case.specs.Shapes.{Shape}
use Rattle.opa_case.specs.Live.{is_live}
use Rattle.opa_case.specs.Cases.{CaseView, list_of}
use Rattle.opa_case.specs.Steps.{rel}

-- Each list that isn't among these is the same, at whatever is live in both cases.
abbrev pub AreTouched : CaseView → CaseView → List (RelId × InstanceId) → Type 0
AreTouched c c' touched = (q : RelId) (j : InstanceId) → is_live c.live j ≡ true → is_live c'.live j ≡ true → Contains touched (q, j) ⊎ (list_of c' q j ≡ list_of c q j)

-- The new keys have what the old ones have, and each list of which the test says so.
abbrev pub AddsKeys : List (RelId × InstanceId) → List (RelId × InstanceId) → (ℕ → InstanceId → Bool) → Type 0
AddsKeys old new test = (q : ℕ) (j : InstanceId) → Contains old (rel q, j) ⊎ (test q j ≡ true) → Contains new (rel q, j)

-- lists of the relation of this number may refer to the instance
abbrev pub may_refer : Shape → InstanceId → ℕ → Bool
may_refer s i q = not (s.contains (rel q)) && s.target (rel q) == i.entity.0
