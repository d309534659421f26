use Rattle.std.proofs.Common.{◌∙◌, ap, sym}
use Rattle.opa_mean.specs.Meaning.{item}
use Rattle.opa_window.specs.Days.{day_value}
use Rattle.opa_code.specs.OverLines.Lines.{values_at}
use Rattle.opa_code.proofs.over_lines.Adding.{item_one, same_at}
use Rattle.opa_code.proofs.over_lines.lines.item_over.Goals as goal

pub returns-then-len-eq1 : goal.returns-then-len-eq1
returns-then-len-eq1 c d lt = sym (ap (λ ls. item c.args.quant (values_at ls d)) c.only.ensures ∙ item_one c.args.quant (day_value c.only.result d))

pub returns : goal.returns
returns c d lt = ap (λ l. day_value l d) c.made.ensures ∙ same_at c.in_ok-line.line _ c.in_ok-line.ensures d lt ∙ ap (λ ls. item c.args.quant (values_at ls d)) c.deref.ensures.value
