use Rattle.std.specs.Prelude.{◌≡◌, ◌&&◌, ℕ, cond, None, take}
use Rattle.std.specs.FinMap.{get}
use Rattle.opa_cells.specs.declared.instance.InstanceId.{InstanceId}
use Rattle.opa_session.specs.Store.Drops.{is_named, slot_at}
use Rattle.opa_session.proofs.store.dropping.drop_of.Given as goal

abbrev pub invariant-loop-attr : goal.invariant-loop-attr
invariant-loop-attr l = (a : ℕ) (j : InstanceId) → get l.entries (a, j) ≡ cond (is_named (take l.attr-index l.attrs) a && slot_at l.base l.inst a j) None (get l.fn.entries (a, j))
