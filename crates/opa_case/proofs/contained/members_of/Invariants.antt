use Rattle.std.specs.Prelude.{◌≡◌, ◌==◌, take, map, filter}
use Rattle.opa_case.proofs.contained.members_of.Given as goal

abbrev pub invariant-loop-inst : goal.invariant-loop-inst
invariant-loop-inst l = l.found.items ≡ map (λ p. p.0) (filter (λ p. p.0.entity.0 == l.entity) (take l.inst-index l.order))
