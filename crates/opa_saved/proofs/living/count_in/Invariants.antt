use Rattle.std.specs.Prelude.{◌≡◌, ◌≤◌, ◌==◌, length, filter, take}
use Rattle.opa_saved.proofs.living.count_in.Given as goal

abbrev pub invariant-loop-inst : goal.invariant-loop-inst
invariant-loop-inst l = record {
  counted : l.count ≡ length (filter (λ p. p.0.entity.0 == l.entity) (take l.inst-index l.order));
  few : l.count ≤ l.inst-index;
}
