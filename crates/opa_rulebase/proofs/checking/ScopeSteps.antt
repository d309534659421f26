-- What is reached by several trees, and by rows.
use Rattle.std.proofs.Common.{◌≡◌, ◌≢◌, ◌∙◌, ◌&&◌, ◌||◌, ◌-◌, ◌==◌, ℕ, zero, suc, arith, Bool, true, false, List, [], ◌∷◌, map, refl, sym, ap, ap₂}
use Rattle.std.specs.List.{list_all, list_any}
use Rattle.std.specs.Prelude.{if◌then◌else◌}
use Rattle.opa_model.specs.declared.ids.EntityId.{EntityId}
use Rattle.opa_model.specs.declared.lists.Lists.{Lists}
use Rattle.opa_tree.specs.declared.expr.Expr.{Expr}
use Rattle.opa_tree.specs.declared.expr.Row.{Row}
use Rattle.opa_tree.specs.Scopes.{Scope, is_reached, all_reached, lineage, parent_of}
use Rattle.opa_tree.proofs.ScopeLaws.{row_is_reached, scope-of_row}
use Rattle.opa_rulebase.specs.Checking.RowScopes.{row_reached}

pub all_scopes : (m : Lists) (enclosing : List EntityId) (es : List Expr) → list_all (λ e. is_reached m e enclosing) es ≡ all_reached (map (is_reached m) es) enclosing
all_scopes m enclosing [] = refl
all_scopes m enclosing (e ∷ es) = ap (λ b. is_reached m e enclosing && b) (all_scopes m enclosing es)

pub row_scopes : (m : Lists) (enclosing : List EntityId) (rows : List Row) → list_all (row_reached m enclosing) rows ≡ all_reached (map (row_is_reached m) rows) enclosing
row_scopes m enclosing [] = refl
row_scopes m enclosing (r ∷ rows) = ap₂ (λ a b. a && b) (sym (ap (λ (s : Scope). s enclosing) (scope-of_row m r))) (row_scopes m enclosing rows)

apart : (e w : ℕ) → e ≢ w → (e == w) ≡ false
apart e w differ = grind (arith, differ)

first_of : (e w : ℕ) → e ≢ w → (t : Bool) → ((e == w) || t) ≡ t
first_of e w differ t = ap (λ b. b || t) (apart e w differ)

other : (e : ℕ) → e ≢ 0 → (xs : List EntityId) → (if e == 0 then [] else xs) ≡ xs
other e differ xs = ap (λ (b : Bool). if b then [] else xs) (apart e 0 differ)

-- an entity that isn't wanted, and isn't the global one, leaves the matter to its parent
pub lineage_step : (m : Lists) (n : ℕ) (e w : EntityId) → n ≢ 0 → e.0 ≢ 0 → e.0 ≢ w.0
    → list_any (λ j. j.0 == w.0) (lineage m n e) ≡ list_any (λ j. j.0 == w.0) (lineage m (n - 1) (parent_of m e))
lineage_step m zero e w some not_global differ = absurd (some refl)
lineage_step m (suc n) e w some not_global differ =
    let less : n ≡ suc n - 1 = omega arith in
    first_of e.0 w.0 differ _ ∙ ap (list_any (λ j. j.0 == w.0)) (other e.0 not_global (lineage m n (parent_of m e)) ∙ ap (λ k. lineage m k (parent_of m e)) less)
