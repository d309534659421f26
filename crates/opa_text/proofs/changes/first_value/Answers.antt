use Rattle.std.proofs.lemmas.Result.{IfOk-weaker}
use Rattle.opa_words.specs.Pieces.{seen}
use Rattle.opa_text.proofs.ChangeLaws.{told_days}
use Rattle.opa_text.proofs.Readings.{value_told}
use Rattle.opa_text.proofs.changes.first_value.Goals as goal

pub returns-clause-value : goal.returns-clause-value
returns-clause-value c = IfOk-weaker c.value_at.result _ _ (λ r e. value_told seen (seen c.args.pieces) r e) c.value_at.ensures.value

pub returns-clause-days : goal.returns-clause-days
returns-clause-days c = IfOk-weaker c.value_at.result _ _ (λ r e. told_days seen (seen c.args.pieces) r (value_told seen (seen c.args.pieces) r e)) c.value_at.ensures.value
