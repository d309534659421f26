use Rattle.std.proofs.Common.{rules, of_calls}
use Rattle.opa_date.specs.declared.TheConstants.{DAYS}
use Rattle.opa_value.specs.declared.value.Value.{Value}
use Rattle.opa_value.specs.declared.value.Value.TheVariants as value
use Rattle.opa_line.proofs.Zipping.{mapped_stands}
use Rattle.opa_case.proofs.Lined.{same_copy}
use Rattle.opa_case.proofs.copies.copy_line.Goals as goal

pub returns : goal.returns
returns c =
    same_copy value.Unknown c.args.line.now c.in_ok-copied.copied
    c.segments-form.ensures.form c.segments-copied_form.ensures.form
    (λ d lt. mapped_stands _ _ (λ (v : Value). v) value.Unknown DAYS c.args.line.now c.in_ok-copied.copied (λ p z says. search (rules, of_calls, says)) c.in_ok-copied.ensures d lt)
