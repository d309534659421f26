use Rattle.std.proofs.Common.{ap}
use Rattle.opa_tree.specs.declared.rulebase.Rulebase.{Rulebase}
use Rattle.opa_reply.proofs.ReplyLaws.{answered_asked, said_ok}
use Rattle.opa_reply.proofs.conversation.ConversationReplier.reply.Goals as goal

pub returns-clause-ok : goal.returns-clause-ok
returns-clause-ok g c =
    said_ok _ _ c.respond.result c.respond.ensures.ok (λ t out.
    answered_asked _ _ _ c.args.line.now _ c.asked-read.result (ap (λ (r : Rulebase). r.model) c.base.ensures) c.asked-read.ensures.ok c.asked-read.ensures.fault out)
