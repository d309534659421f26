use Rattle.std.specs.Prelude.{◌≡◌, ◌≤◌, ◌-◌, ◌&&◌, nat_lt, ℕ, cond, None, length}
use Rattle.std.specs.FinMap.{get}
use Rattle.opa_cells.specs.declared.instance.InstanceId.{InstanceId}
use Rattle.opa_case.specs.Shapes.{shape_of}
use Rattle.opa_case.specs.Lost.{answers_of}
use Rattle.opa_case.proofs.dropping.drop_answers_of.Given as goal

abbrev pub invariant-loop-number : goal.invariant-loop-number
invariant-loop-number l = record {
  taken : (a : ℕ) (j : InstanceId) → get l.answers (a, j) ≡ cond (nat_lt a l.number && answers_of (shape_of l.model) l.inst a j) None (get l.fn.answers (a, j));
  within : l.number ≤ length l.model.attributes;
}

abbrev pub decreases-loop-number : goal.decreases-loop-number
decreases-loop-number l = l.count - l.number
