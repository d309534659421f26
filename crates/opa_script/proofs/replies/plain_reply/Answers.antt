use Rattle.std.proofs.Common.{sym, ap, ◌∙◌}
use Rattle.std.proofs.lemmas.Result.{IfErr-weaker}
use Rattle.opa_words.specs.Pieces.{seen, pieces}
use Rattle.opa_script.proofs.Found.{has_tokens, uncut_reply, unanswered}
use Rattle.opa_script.proofs.replies.plain_reply.Goals as goal

pub returns-in-Err-cut-clause-fault : goal.returns-in-Err-cut-clause-fault
returns-in-Err-cut-clause-fault c = uncut_reply c.args.question.now c.args.line.now c.in-Ok.text.now c.in-Err-cut.fault (sym c.if-is_idle.ensures) c.in-Ok.ensures.text c.in-Err-cut.ensures.fault

pub returns-in-Ok-cut-clause-fault : goal.returns-in-Ok-cut-clause-fault
returns-in-Ok-cut-clause-fault c =
    IfErr-weaker c.reply_of.result _ _
    (λ f h. unanswered c.args.question.now c.args.line.now (seen c.new.result) f (sym c.if-is_idle.ensures)
    (has_tokens c.args.line.now c.in-Ok.text.now c.in-Ok-cut.found.items (seen c.new.result) c.in-Ok.ensures.text c.in-Ok-cut.ensures.cut (c.new.ensures.tokens ∙ ap (pieces c.in-Ok.text.now) c.deref.ensures.value)) h)
    c.reply_of.ensures.fault
