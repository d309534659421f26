use Rattle.std.specs.Prelude.{◌≡◌, ◌==◌, ℕ, cond, [], ◌∷◌, flat_map, take}
use Rattle.opa_case.specs.Shapes.{shape_of}
use Rattle.opa_mean.specs.Places.{owner_of}
use Rattle.opa_session.specs.Store.Owners.{owned_in}
use Rattle.opa_session.proofs.store.owners.owners_of.Given as goal

abbrev pub invariant-loop-rule : goal.invariant-loop-rule
invariant-loop-rule l = (e : ℕ) → owned_in l.owners e ≡ flat_map (λ rule. cond (owner_of (shape_of l.base.model) rule.attr == e) (rule.attr ∷ []) []) (take l.rule-index l.rules)
