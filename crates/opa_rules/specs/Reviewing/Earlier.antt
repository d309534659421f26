-- What is kept of the earlier rows of a table.
use Rattle.std.specs.Prelude.{◌≡◌, ℕ, min, Bool, true, false, List, position, Option, Some, None}
use Rattle.opa_tree.specs.declared.expr.Expr.{Expr}
use Rattle.opa_tree.specs.declared.expr.Row.{Row}
use Rattle.opa_rules.specs.Reviewing.Rows.{is_always}
use Rattle.opa_rules.specs.Reviewing.Trees.{same_tree}

-- the place of the first row with a condition
abbrev pub first_alike : List Row → Expr → Option ℕ
first_alike rows e = position (λ r. same_tree r.cond e) rows

-- the place of the first row that is always true
abbrev pub first_always : List Row → Option ℕ
first_always rows = position (λ r. is_always r.cond) rows

-- the lesser of two places
abbrev pub lesser : Option ℕ → Option ℕ → Option ℕ
lesser None b = b
lesser (Some m) None = Some m
lesser (Some m) (Some n) = Some (min m n)

-- the place that was found, or else one that passes
abbrev pub found_or : Option ℕ → Bool → ℕ → Option ℕ
found_or (Some m) passes n = Some m
found_or None true n = Some n
found_or None false n = None

-- each condition is found at its first place, and the first that is always true is known
abbrev pub AreKnown : List Row → (Expr → Option ℕ) → Option ℕ → Type 0
AreKnown rows alike always = ((e : Expr) → alike e ≡ first_alike rows e) × (always ≡ first_always rows)

-- a condition with a place, if it had none
abbrev pub IsNoted : Expr → ℕ → (Expr → Option ℕ) → (Expr → Option ℕ) → Type 0
IsNoted c n old new = (e : Expr) → new e ≡ found_or (old e) (same_tree c e) n
