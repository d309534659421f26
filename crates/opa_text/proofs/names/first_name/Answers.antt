use Rattle.std.proofs.lemmas.Result.{IfOk-weaker}
use Rattle.opa_words.specs.Pieces.{seen}
use Rattle.opa_text.proofs.Readings.{name_told}
use Rattle.opa_text.proofs.names.first_name.Goals as goal

pub returns-clause-name : goal.returns-clause-name
returns-clause-name c = IfOk-weaker c.name_at.result _ _ (λ r e. name_told seen (seen c.args.pieces) r e) c.name_at.ensures.value
