use Rattle.std.specs.Prelude.{◌≡◌, ℕ, cond, None, take}
use Rattle.std.specs.List.{list_any}
use Rattle.std.specs.FinMap.{get}
use Rattle.opa_cells.specs.declared.instance.InstanceId.{InstanceId}
use Rattle.opa_session.specs.Store.Drops.{goes_at}
use Rattle.opa_session.proofs.store.dropping.drop_all.Given as goal

abbrev pub invariant-loop-inst : goal.invariant-loop-inst
invariant-loop-inst l = (a : ℕ) (j : InstanceId) → get l.entries (a, j) ≡ cond (list_any (λ g. goes_at l.base l.owners g.0 a j) (take l.inst-index l.went)) None (get l.fn.entries (a, j))
