use Rattle.std.proofs.Common.{◌||◌, sym, ap, ◌∙◌}
use Rattle.opa_tree.specs.Mentions.{is_attr}
use Rattle.opa_rules.proofs.reviewing.RoundingLaws.{any_more}
use Rattle.opa_rules.proofs.reviewing.roundings.is_goal.Goals as goal

pub loop-n-preserved : goal.loop-n-preserved
loop-n-preserved c =
    c.is_found-found.ensures ∙ ap (λ b. b || is_attr c.args.attr c.goal.result) c.loop-n.invariant
    ∙ sym (any_more (is_attr c.args.attr) c.loop-n.n c.args.model.now.goals c.goal.result c.goal.ensures)
