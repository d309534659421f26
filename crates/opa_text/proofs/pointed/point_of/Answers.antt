use Rattle.std.proofs.lemmas.Result.{IfOk-weaker}
use Rattle.opa_words.specs.Pieces.{seen}
use Rattle.opa_text.proofs.PointLaws.{named_or}
use Rattle.opa_text.proofs.pointed.point_of.Goals as goal

pub returns-in-Some : goal.returns-in-Some
returns-in-Some c = IfOk-weaker c.named_point.result _ _ (λ r h. named_or r c.in-Some.text.now (seen c.in-Some.front) (seen c.args.pieces) c.in-Some.ensures.ends h) c.named_point.ensures
