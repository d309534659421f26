use Rattle.std.specs.Prelude.{◌≡◌, ◌&&◌, ℕ, List, None, cond, false}
use Rattle.std.specs.FinMap as map
use Rattle.std.specs.Ordering.{nat_cmp, is_eq}
use Rattle.opa_cells.specs.declared.instance.InstanceId.{InstanceId}
use Rattle.opa_case.specs.Listed.{has_source, is_indexed, is_named_in}
use Rattle.opa_case.proofs.listed.take_each.Given as goal

abbrev pub invariant-loop-inst : goal.invariant-loop-inst
invariant-loop-inst l = record {
  cells : (q : ℕ) (j : InstanceId) → map.get l.cells (q, j) ≡ cond (is_eq (nat_cmp q l.number) && has_source l.yielded j) None (map.get l.fn.cells (q, j));
  index : (q : ℕ) (n : List ℕ) (j : InstanceId) → is_indexed l.index.entries q n j ≡ cond (is_eq (nat_cmp q l.number) && has_source l.yielded j && is_named_in (map.get l.fn.cells (q, j)) n) false (is_indexed l.fn.index.entries q n j);
}
