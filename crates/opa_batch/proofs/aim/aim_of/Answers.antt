use Rattle.std.proofs.Common.{ap, ◌∙◌}
use Rattle.std.proofs.lemmas.Result.{IfOk-weaker}
use Rattle.opa_words.specs.Pieces.{seen, pieces}
use Rattle.opa_script.proofs.Found.{has_tokens}
use Rattle.opa_batch.proofs.AimLaws.{aimed_if}
use Rattle.opa_batch.proofs.aim.aim_of.Goals as goal

pub returns-in-Ok : goal.returns-in-Ok
returns-in-Ok c =
    let bytes = c.as_slice-bytes.result.now in
    let text = c.in-Some.text.now in
    let few = c.if-bytes-gt-MOST_TEXT.false in
    let has = has_tokens bytes text c.in-Ok.found.items (seen c.new.result) c.in-Some.ensures c.in-Ok.ensures.cut (c.new.ensures.tokens ∙ ap (pieces text) c.deref.ensures.value) in
    IfOk-weaker c.pieces_aim.result _ _ (aimed_if c.args.model.now c.args.head.now bytes (seen c.new.result) c.as_slice-bytes.ensures few has) c.pieces_aim.ensures
