use Rattle.opa_tree.proofs.MentionLaws.{once_more}
use Rattle.opa_tree.proofs.mention.each_once.Goals as goal

pub loop-attr-preserved : goal.loop-attr-preserved
loop-attr-preserved c = once_more c.args.attrs.now c.loop-attr.attr-index _ _ _ c.loop-attr-test.true c.loop-attr.invariant c.in_ok-add_new.ensures
