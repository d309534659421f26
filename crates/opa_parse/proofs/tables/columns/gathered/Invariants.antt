use Rattle.std.proofs.Common.{◌≡◌}
use Rattle.std.specs.Vec.Iter.{into_iter_items}
use Rattle.opa_sentence.specs.Measures.{bounded}
use Rattle.opa_sentence.specs.Readings.{gathered, lines}
use Rattle.opa_parse.proofs.tables.columns.gathered.Given as goal

abbrev pub invariant-loop-part : goal.invariant-loop-part
invariant-loop-part l = gathered bounded l.all (into_iter_items l.part-iterator) ≡ lines bounded l.fn.parts
