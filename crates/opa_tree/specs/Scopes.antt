-- What is reached from the enclosing entities.
use Rattle.std.specs.Prelude.{ℕ, zero, suc, Bool, true, false, ◌&&◌, ◌==◌, List, [], ◌∷◌, if◌then◌else◌}
use Rattle.std.specs.List.{list_any, list_all}
use Rattle.std.specs.Option.{option_map_or}
use Rattle.opa_model.specs.declared.ids.EntityId.{EntityId}
use Rattle.opa_model.specs.declared.lists.Lists.{Lists}
use Rattle.opa_model.specs.Lookups.{entity_at, attribute_at, relation_at}
use Rattle.opa_tree.specs.declared.expr.Expr.{Expr}
use Rattle.opa_tree.specs.declared.expr.Expr.TheOpen.{Expr-F, Row-F, Const, Attr, All, Any, Not, Op, Certain, Known, Over, Window, Rolling, Table}
use Rattle.opa_tree.specs.declared.expr.Expr.TheFolds.{fold-Expr}
use Rattle.opa_tree.specs.declared.rules.Rule.{Rule}

-- the entity whose instances contain those of this one
abbrev pub parent_of : Lists → EntityId → EntityId
parent_of m e = option_map_or (λ x. x.parent) (entity_at m e) e

-- the entity, its parent and so on, up to the global one, in at most so many steps
abbrev pub lineage : Lists → ℕ → EntityId → List EntityId
lineage m zero e = e ∷ []
lineage m (suc n) e = e ∷ (if e.0 == 0 then [] else lineage m n (parent_of m e))

-- The entity is an enclosing one, or contains one. A parent is declared earlier, so as many steps are enough as there are
-- earlier entities.
abbrev pub encloses : Lists → List EntityId → EntityId → Bool
encloses m enclosing e = list_any (λ i. list_any (λ j. j.0 == e.0) (lineage m i.0 i)) enclosing

abbrev pub Scope : Type 0
Scope = List EntityId → Bool

abbrev pub all_reached : List Scope → Scope
all_reached xs enclosing = list_all (λ x. x enclosing) xs

-- inside a quantifier the listed instance is the innermost enclosing one
abbrev pub scope_step : Lists → Expr-F Scope Scope → Scope
scope_step m (Const v) enclosing = true
scope_step m (Attr a) enclosing = option_map_or (λ x. encloses m enclosing x.entity) (attribute_at m a) false
scope_step m (All xs) enclosing = all_reached xs enclosing
scope_step m (Any xs) enclosing = all_reached xs enclosing
scope_step m (Not x) enclosing = x enclosing
scope_step m (Op k xs) enclosing = all_reached xs enclosing
scope_step m (Certain x) enclosing = x enclosing
scope_step m (Known x) enclosing = x enclosing
scope_step m (Over q r xs) enclosing = option_map_or (λ x. encloses m enclosing x.source && all_reached xs (x.target ∷ enclosing)) (relation_at m r) false
scope_step m (Window k xs) enclosing = all_reached xs enclosing
scope_step m (Rolling b n x) enclosing = x enclosing
scope_step m (Table rows last) enclosing = all_reached rows enclosing && last enclosing

abbrev pub scope_row : Row-F Scope Scope → Scope
scope_row row enclosing = row.cond enclosing && row.value enclosing

-- each attribute of the tree and the source of each relation is reached from the enclosing entities, the innermost first
unfoldable pub is_reached : Lists → Expr → List EntityId → Bool
is_reached m = fold-Expr Scope Scope (scope_step m) scope_row

-- a rule's tree stands in an instance of its attribute's entity
abbrev pub rule_is_reached : Lists → Rule → Bool
rule_is_reached m rule = option_map_or (λ x. is_reached m rule.expr (x.entity ∷ [])) (attribute_at m rule.attr) false
