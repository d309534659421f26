-- Which `every` relations hang on the lists that contain an entity.
use Rattle.std.specs.Prelude.{◌≡◌, ℕ, zero, suc, ◌==◌, Bool, true, false, ◌&&◌, ◌||◌, not, None}
use Rattle.std.specs.FinMap.{FinMap, get}
use Rattle.opa_cells.specs.Instances.{global}
use Rattle.opa_cells.specs.Keys.{cell_cmp}
use Rattle.opa_case.specs.Shapes.{Shape}
use Rattle.opa_case.specs.Live.{Names, Lists, walk}
use Rattle.opa_case.specs.Steps.{rel}

-- from e one comes to t within n steps to parents, before the global entity
unfoldable pub is_under : Shape → ℕ → ℕ → ℕ → Bool
is_under s t zero e = false
is_under s t (suc n) e = not (e == 0) && (e == t || is_under s t n (s.parent e))

-- the relation of this number is declared with `every` and lists t, or an entity below
abbrev pub hangs_on : Shape → ℕ → ℕ → Bool
hangs_on s t n = s.every (rel n) && is_under s t s.count (s.target (rel n))

-- the list of a relation that hangs on t wasn't known, and isn't by these lists
abbrev pub StaysUnknown : Shape → Lists → FinMap cell_cmp Names → ℕ → ℕ → Type 0
StaysUnknown s l before t n = hangs_on s t n ≡ true → (get before (n, global) ≡ None) × (walk s l s.count (s.target (rel n)) ≡ None)
