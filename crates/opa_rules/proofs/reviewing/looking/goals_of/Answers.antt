use Rattle.std.proofs.Common.{◌++◌, ◌∷◌, [], ap, sym, ◌∙◌}
use Rattle.opa_rules.proofs.reviewing.MarkLaws.{took_more}
use Rattle.opa_rules.proofs.reviewing.looking.goals_of.Goals as goal

pub loop-number-preserved : goal.loop-number-preserved
loop-number-preserved c =
    c.in_ok-push.ensures.ok ∙ ap (λ gs. gs ++ c.goal.result ∷ []) c.loop-number.invariant ∙ sym (took_more c.args.model.now.goals c.loop-number.number c.goal.result c.goal.ensures)
