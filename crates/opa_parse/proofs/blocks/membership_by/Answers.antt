use Rattle.std.proofs.Common.{◌∷◌, Some, None, subst, sym, ap, ◌∙◌}
use Rattle.opa_parse.specs.declared.block.Membership.{Membership}
use Rattle.opa_parse.specs.Blocks.{SpellsMembers}
use Rattle.opa_parse.specs.Openings.{heading}
use Rattle.opa_parse.specs.Statements.{IsSaid}
use Rattle.opa_parse.proofs.BlockLaws.{unheaded, unsaid, membership_said}
use Rattle.opa_parse.proofs.blocks.membership_by.Goals as goal

pub returns-in-None : goal.returns-in-None
returns-in-None c =
    unheaded c.args.model.now c.args.names.now c.args.first.now c.args.rest.now c.args.tokens.now c.requires.level c.requires.cut
    (sym (c.in_ok-heading.ensures ∙ ap (λ t. heading c.args.names.now t c.args.tokens.now) c.as_str.ensures) ∙ c.in-None.is)

pub returns-in-None-2 : goal.returns-in-None-2
returns-in-None-2 c =
    unsaid c.args.model.now c.args.names.now c.args.first.now c.args.rest.now c.args.tokens.now c.requires.level c.requires.cut
    (subst (λ s. IsSaid c.args.names.now s c.args.rest.now None) c.below_first.ensures
    (subst (λ o. IsSaid c.args.names.now c.below_first.result c.args.rest.now o) c.in-None-2.is c.in_ok-said_below-in-Some.ensures))

pub returns-in-Some-2 : goal.returns-in-Some-2
returns-in-Some-2 c =
    subst (λ e. SpellsMembers c.args.model.now c.args.names.now (c.args.first.now ∷ c.args.rest.now) (let s : Membership = record { phrase = c.in-Some.phrase; every = e; said = c.in-Some-2.said } in s)) (sym c.every_of.ensures)
    (membership_said c.args.model.now c.args.names.now c.args.first.now c.args.rest.now c.args.tokens.now c.requires.level c.requires.cut (c.in-Some.phrase, c.in-Some.relation) c.in-Some-2.said
    (sym (c.in_ok-heading.ensures ∙ ap (λ t. heading c.args.names.now t c.args.tokens.now) c.as_str.ensures) ∙ c.in-Some.is)
    (subst (λ s. IsSaid c.args.names.now s c.args.rest.now (Some c.in-Some-2.said)) c.below_first.ensures
    (subst (λ o. IsSaid c.args.names.now c.below_first.result c.args.rest.now o) c.in-Some-2.is c.in_ok-said_below-in-Some.ensures)))
