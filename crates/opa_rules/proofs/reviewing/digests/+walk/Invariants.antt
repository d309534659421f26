use Rattle.std.proofs.Common.{◌≡◌, take, fold, map}
use Rattle.opa_rules.specs.Reviewing.Digests.{mixed, digest, row_digest}
use Rattle.opa_rules.proofs.reviewing.digests.+walk.Given as goal

abbrev pub invariant-of_parts-loop-part : goal.invariant-of_parts-loop-part
invariant-of_parts-loop-part l = l.all ≡ fold mixed l.start (map digest (take l.part-index l.parts))

abbrev pub invariant-of_rows-loop-row : goal.invariant-of_rows-loop-row
invariant-of_rows-loop-row l = l.all ≡ fold mixed l.start (map row_digest (take l.row-index l.rows))
