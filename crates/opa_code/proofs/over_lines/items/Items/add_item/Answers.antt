use Rattle.std.proofs.lemmas.Result.{on_ok_weaker}
use Rattle.opa_mean.specs.Meaning.{item}
use Rattle.opa_window.specs.Days.{day_value}
use Rattle.opa_code.specs.OverLines.Lines.{values_at}
use Rattle.opa_code.proofs.over_lines.Adding.{added_same}
use Rattle.opa_code.proofs.over_lines.items.Items.add_item.Goals as goal

pub returns : goal.returns
returns c = on_ok_weaker c.add.result (added_same (day_value c.in_ok-operand.operand) (λ d. item c.args.quant (values_at c.args.operands.items d)) c.args.self.now _ c.in_ok-operand.ensures) c.add.ensures
