use Rattle.std.specs.Prelude.{◌≡◌, ◌≤◌, ◌-◌, ◌&&◌, nat_lt, ℕ, cond, None, length}
use Rattle.std.specs.FinMap.{get}
use Rattle.opa_cells.specs.declared.instance.InstanceId.{InstanceId}
use Rattle.opa_case.specs.Shapes.{shape_of}
use Rattle.opa_case.specs.Lost.{goes_with}
use Rattle.opa_case.proofs.dropping.drop_lists_of.Given as goal

abbrev pub invariant-loop-number : goal.invariant-loop-number
invariant-loop-number l = record {
  taken : (q : ℕ) (j : InstanceId) → get l.lists (q, j) ≡ cond (nat_lt q l.number && goes_with (shape_of l.model) l.inst q j (get l.fn.lists (q, j))) None (get l.fn.lists (q, j));
  within : l.number ≤ length l.model.relations;
}

abbrev pub decreases-loop-number : goal.decreases-loop-number
decreases-loop-number l = l.count - l.number
