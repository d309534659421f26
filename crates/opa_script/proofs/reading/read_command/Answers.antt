use Rattle.std.proofs.Common.{sym, ap, ◌∙◌, inr}
use Rattle.std.proofs.lemmas.Result.{IfErr-weaker, IfOk-weaker}
use Rattle.opa_words.specs.Pieces.{seen, pieces}
use Rattle.opa_script.proofs.Found.{has_tokens, uncut_command, tokens_none}
use Rattle.opa_script.proofs.reading.read_command.Goals as goal

pub returns-in-Err-cut-clause-fault : goal.returns-in-Err-cut-clause-fault
returns-in-Err-cut-clause-fault c = uncut_command c.args.model.now c.args.line.now c.in-Ok.text.now c.in-Err-cut.fault (sym c.if-is_idle.ensures) c.in-Ok.ensures.text c.in-Err-cut.ensures.fault

pub returns-in-Ok-cut-clause-ok : goal.returns-in-Ok-cut-clause-ok
returns-in-Ok-cut-clause-ok c =
    IfOk-weaker c.command_of.result _ _
    (λ x h. inr (
      sym c.if-is_idle.ensures,
      (
        seen c.new.result,
        has_tokens c.args.line.now c.in-Ok.text.now c.in-Ok-cut.found.items (seen c.new.result) c.in-Ok.ensures.text c.in-Ok-cut.ensures.cut (c.new.ensures.tokens ∙ ap (pieces c.in-Ok.text.now) c.deref.ensures.value),
        h,
      ),
    ))
    c.command_of.ensures.ok

pub returns-in-Ok-cut-clause-fault : goal.returns-in-Ok-cut-clause-fault
returns-in-Ok-cut-clause-fault c =
    IfErr-weaker c.command_of.result _ _
    (λ f h. tokens_none c.args.model.now c.args.line.now (seen c.new.result) f (sym c.if-is_idle.ensures)
    (has_tokens c.args.line.now c.in-Ok.text.now c.in-Ok-cut.found.items (seen c.new.result) c.in-Ok.ensures.text c.in-Ok-cut.ensures.cut (c.new.ensures.tokens ∙ ap (pieces c.in-Ok.text.now) c.deref.ensures.value)) h)
    c.command_of.ensures.fault
