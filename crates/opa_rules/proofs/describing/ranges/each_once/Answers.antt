use Rattle.opa_rules.proofs.describing.RangeLaws.{once_more}
use Rattle.opa_rules.proofs.describing.ranges.each_once.Goals as goal

pub loop-rel-preserved : goal.loop-rel-preserved
loop-rel-preserved c = once_more c.args.rels.now c.loop-rel.rel-index _ _ _ c.loop-rel-test.true c.loop-rel.invariant c.in_ok-add_new.ensures
