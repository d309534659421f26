use Rattle.std.proofs.Common.{ap}
use Rattle.opa_io.proofs.Results.{always_on_err}
use Rattle.opa_tree.specs.declared.rulebase.Rulebase.{Rulebase}
use Rattle.opa_reply.proofs.AtHand.{next_stays}
use Rattle.opa_reply.proofs.ReplyLaws.{answered_told, stopped_told}
use Rattle.opa_reply.proofs.interview.InterviewReplier.reply.Goals as goal

pub returns-clause-ok : goal.returns-clause-ok
returns-clause-ok g c =
    answered_told _ _ _ _ c.args.line.now _ c.told-read.result (ap (λ (r : Rulebase). r.model) c.base.ensures) c.in_ok-asked.ensures.next c.told-read.ensures.ok c.told-read.ensures.fault c.in_ok-text.ensures.ok

pub returns-in_err-text-clause-err : goal.returns-in_err-text-clause-err
returns-in_err-text-clause-err g c =
    always_on_err _ (stopped_told _ _ _ _ _ _ c.args.line.now c.told-read.result (ap (λ (r : Rulebase). r.model) c.base.ensures) c.in_ok-asked.ensures.next c.told-read.ensures.ok c.told-read.ensures.fault c.in_err-text.ensures.err)

pub asked_after-requires : goal.asked_after-requires
asked_after-requires g c =
    next_stays _ _ _ _ _ _ _ _ _ c.is_load-load.ensures c.is_change-change.ensures c.may_bring-may.ensures c.as_slice.ensures.value c.in_ok-text.ensures.ok c.in_ok-asked.ensures.next
