use Rattle.std.proofs.Common.{◌≡◌, length}
use Rattle.std.specs.Vec.Iter.{into_iter_items, into_iter_len}
use Rattle.opa_date.specs.declared.TheConstants.{DAYS}
use Rattle.opa_line.proofs.Merging.{Merging}
use Rattle.opa_line.proofs.pairs.merged.Given as goal

abbrev pub invariant-loop-day : goal.invariant-loop-day
invariant-loop-day g l = record {
  sized : into_iter_len l.day-iterator ≡ length (into_iter_items l.day-iterator);
  merging : Merging DAYS l.fn.pairs.items l.value (into_iter_items l.day-iterator) l.out;
}
