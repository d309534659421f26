use Rattle.std.proofs.Common.{◌++◌, ◌∷◌, [], length, ap, ◌∙◌}
use Rattle.std.proofs.lemmas.Result.{IfOk-weaker}
use Rattle.opa_listen.specs.Words.{count_text}
use Rattle.opa_listen.proofs.saying.count_line.Goals as goal

pub returns-in-Some : goal.returns-in-Some
returns-in-Some c = IfOk-weaker c.last_line.result _ _ (λ t e. e ∙ ap (λ o. count_text (length c.args.kept.now) o ++ 10 ∷ []) c.in-Some.ensures.value) c.last_line.ensures
