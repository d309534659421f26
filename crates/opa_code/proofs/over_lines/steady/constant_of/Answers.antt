use Rattle.std.proofs.Common.{ap}
use Rattle.opa_value.specs.declared.value.Value.TheVariants.{Unknown}
use Rattle.opa_line.specs.Lines.{value_or}
use Rattle.opa_code.proofs.over_lines.Halving.{some_weaker}
use Rattle.opa_code.proofs.over_lines.steady.constant_of.Goals as goal

pub returns : goal.returns
returns c = some_weaker c.only.result _ _ (λ v e d. ap (value_or Unknown) (e d)) c.only.ensures
