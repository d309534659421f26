use Rattle.std.proofs.lemmas.Result.{IfOk-weaker}
use Rattle.opa_words.specs.Pieces.{seen}
use Rattle.opa_text.proofs.Readings.{next_told}
use Rattle.opa_text.proofs.names.later_name.Goals as goal

pub returns-clause-name : goal.returns-clause-name
returns-clause-name c = IfOk-weaker c.next_name.result _ _ (λ r e. next_told seen (seen c.args.pieces) r e) c.next_name.ensures.value
