use Rattle.std.proofs.Common.{ap, ◌∙◌}
use Rattle.std.proofs.lemmas.Result.{IfOk-weaker}
use Rattle.opa_words.specs.Pieces.{seen, pieces}
use Rattle.opa_script.proofs.Found.{has_tokens}
use Rattle.opa_batch.proofs.AimLaws.{said_if}
use Rattle.opa_batch.proofs.said.cell_said.Goals as goal

pub returns-in-Ok : goal.returns-in-Ok
returns-in-Ok c =
    let cell = c.args.cell.now in
    let text = c.in-Some.text.now in
    let few = c.if-cell-gt-MOST_TEXT.false in
    let has = has_tokens cell text c.in-Ok.found.items (seen c.new.result) c.in-Some.ensures c.in-Ok.ensures.cut (c.new.ensures.tokens ∙ ap (pieces text) c.deref.ensures.value) in
    IfOk-weaker c.some_said.result _ _ (said_if c.args.aim.now cell (seen c.new.result) few has) c.some_said.ensures
