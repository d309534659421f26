use Rattle.std.specs.Prelude.{◌≡◌, ◌&&◌, nat_lt, ℕ, cond, None, take}
use Rattle.std.specs.List.{list_any}
use Rattle.std.specs.FinMap.{get}
use Rattle.opa_cells.specs.declared.instance.InstanceId.{InstanceId}
use Rattle.opa_case.specs.Shapes.{shape_of}
use Rattle.opa_case.specs.Lost.{goes_with}
use Rattle.opa_case.proofs.dropping.drop_lists.Given as goal

abbrev pub invariant-loop-inst : goal.invariant-loop-inst
invariant-loop-inst l = (q : ℕ) (j : InstanceId) → get l.lists (q, j) ≡ cond (nat_lt q (shape_of l.model).relations && list_any (λ g. goes_with (shape_of l.model) g.0 q j (get l.fn.lists (q, j))) (take l.inst-index l.gone)) None (get l.fn.lists (q, j))
