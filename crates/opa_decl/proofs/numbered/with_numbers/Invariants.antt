use Rattle.std.proofs.Common.{◌≡◌, ◌++◌, ◌+◌, length}
use Rattle.std.specs.Vec.Iter.{into_iter_items}
use Rattle.opa_decl.specs.Numbering.{numbered, no_counts, AreFew}
use Rattle.opa_decl.proofs.numbered.with_numbers.Given as goal

abbrev pub invariant-loop-item : goal.invariant-loop-item
invariant-loop-item l = record {
  same : l.all ++ numbered l.counts (into_iter_items l.item-iterator) ≡ numbered no_counts l.fn.items;
  few : AreFew (length l.all) l.counts;
  size : length l.all + length (into_iter_items l.item-iterator) ≡ length l.fn.items;
}
