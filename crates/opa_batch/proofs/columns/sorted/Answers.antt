use Rattle.std.proofs.Common.{ap, ◌∙◌}
use Rattle.std.proofs.lemmas.Result.{IfErr-weaker, IfOk-weaker}
use Rattle.opa_words.specs.Pieces.{seen, pieces}
use Rattle.opa_script.proofs.Found.{has_tokens}
use Rattle.opa_batch.proofs.HeadLaws.{uncut_head, unsorted_head, sorted_head}
use Rattle.opa_batch.proofs.columns.sorted.Goals as goal

pub returns-in-Err-clause-fault : goal.returns-in-Err-clause-fault
returns-in-Err-clause-fault c = uncut_head c.args.model.now c.args.cell.now c.in-Some.text.now c.in-Err.fault c.in-Some.ensures c.in-Err.ensures.fault

pub returns-in-Ok-clause-ok : goal.returns-in-Ok-clause-ok
returns-in-Ok-clause-ok c =
    IfOk-weaker c.pointed.result _ _
    (λ s h. sorted_head c.args.model.now c.args.cell.now (seen c.new.result) s
    (has_tokens c.args.cell.now c.in-Some.text.now c.in-Ok.found.items (seen c.new.result) c.in-Some.ensures c.in-Ok.ensures.cut (c.new.ensures.tokens ∙ ap (pieces c.in-Some.text.now) c.deref.ensures.value)) h)
    c.pointed.ensures.ok

pub returns-in-Ok-clause-fault : goal.returns-in-Ok-clause-fault
returns-in-Ok-clause-fault c =
    IfErr-weaker c.pointed.result _ _
    (λ f h. unsorted_head c.args.model.now c.args.cell.now (seen c.new.result) f
    (has_tokens c.args.cell.now c.in-Some.text.now c.in-Ok.found.items (seen c.new.result) c.in-Some.ensures c.in-Ok.ensures.cut (c.new.ensures.tokens ∙ ap (pieces c.in-Some.text.now) c.deref.ensures.value)) h)
    c.pointed.ensures.fault
