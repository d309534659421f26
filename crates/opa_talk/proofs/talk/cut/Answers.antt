use Rattle.opa_talk.proofs.LinesLaws.{part_more, part_all}
use Rattle.opa_talk.proofs.talk.cut.Goals as goal

pub loop-i-preserved : goal.loop-i-preserved
loop-i-preserved c = part_more c.args.bytes.now c.loop-i.i c.loop-i-test.true c.loop-i.invariant c.if-bytes-i-eq10.false

pub returns : goal.returns
returns c = part_all c.args.bytes.now c.loop-i.i c.loop-i-test.false c.loop-i.invariant
