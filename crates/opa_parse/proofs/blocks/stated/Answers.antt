use Rattle.std.proofs.Common.{◌∷◌, sym, subst, ◌∙◌}
use Rattle.opa_parse.specs.Blocks.{IsStatement}
use Rattle.opa_parse.specs.Statements.{IsSaid}
use Rattle.opa_sentence.specs.Cursors.{seen}
use Rattle.opa_parse.proofs.BlockLaws.{nothing_stated, if_stated, line_stated, cases_stated}
use Rattle.opa_parse.proofs.blocks.stated.Goals as goal

pub returns-in-Nothing : goal.returns-in-Nothing
returns-in-Nothing c = nothing_stated c.args.model.now c.args.names.now c.args.first.now c.args.rest.now (seen c.args.words) c.requires.level c.requires.cut (sym c.in_ok-opening.ensures ∙ c.in-Nothing.is)

pub returns-in_ok-said-in-If : goal.returns-in_ok-said-in-If
returns-in_ok-said-in-If c =
    subst (IsStatement c.args.model.now c.args.names.now (c.args.first.now ∷ c.args.rest.now)) (sym c.statement.ensures)
    (if_stated c.args.model.now c.args.names.now c.args.first.now c.args.rest.now (seen c.args.words) c.requires.level c.requires.cut c.in-If.attr (sym c.in_ok-opening.ensures ∙ c.in-If.is) c.in_ok-said-in-If.said
    (subst (λ s. IsSaid c.args.names.now s c.args.rest.now c.in_ok-said-in-If.said) c.below_first.ensures c.in_ok-said-in-If.ensures))

pub returns-in_ok-said-in-Is : goal.returns-in_ok-said-in-Is
returns-in_ok-said-in-Is c =
    subst (IsStatement c.args.model.now c.args.names.now (c.args.first.now ∷ c.args.rest.now)) (sym c.statement-in-Is.ensures)
    (line_stated c.args.model.now c.args.names.now c.args.first.now c.args.rest.now (seen c.args.words) c.requires.level c.requires.cut c.in-Is.attr (sym c.in_ok-opening.ensures ∙ c.in-Is.is) c.in_ok-said-in-Is.said c.in_ok-said-in-Is.ensures)

pub returns-in_ok-said-in-Cases : goal.returns-in_ok-said-in-Cases
returns-in_ok-said-in-Cases c =
    subst (IsStatement c.args.model.now c.args.names.now (c.args.first.now ∷ c.args.rest.now)) (sym c.statement-in-Cases.ensures)
    (cases_stated c.args.model.now c.args.names.now c.args.first.now c.args.rest.now (seen c.args.words) c.requires.level c.requires.cut c.in-Cases.attr (sym c.in_ok-opening.ensures ∙ c.in-Cases.is) c.in_ok-said-in-Cases.said c.in_ok-said-in-Cases.ensures)
