use Rattle.std.proofs.Common.{◌≡◌, true, ◌∙◌, ap, sym, subst}
use Rattle.std.specs.Prelude.{length}
use Rattle.opa_case.specs.Cases.{CaseView}
use Rattle.opa_case.specs.Instances.{AreInstances}
use Rattle.opa_tree.specs.declared.rulebase.Rulebase.{Rulebase}
use Rattle.opa_mean.specs.Given.{base_of, facts_of}
use Rattle.opa_mean.specs.Rulebases.{IsOf}
use Rattle.opa_report.specs.Promises.{is_point, IsAbout, IsExact, SupportsValue, ListsEntries, HasDays, Keeps}
use Rattle.opa_report.proofs.Ingredients.{are_of, there_is_point}
use Rattle.opa_report.proofs.Promised.{some_weaker, held_whole, report_kept}
use Rattle.opa_report.proofs.whole.held_lines.Goals as goal

pub lines_over-requires-clause-fits : goal.lines_over-requires-clause-fits
lines_over-requires-clause-fits g c =
    subst (λ (r : Rulebase). IsOf r c.case-case.result.now) (sym c.base-base.ensures) (subst (λ (k : CaseView). IsOf (g.H.Held.rules c.args.held.now) k) (sym c.case-case.ensures.case) c.case-case.ensures.fits)

pub returns : goal.returns
returns g c = λ point. held_whole c.lines_over.result (g.H.Held.rules c.args.held.now) c.base-base.result.now (g.H.Held.held c.args.held.now) c.case-case.result.now c.args.attr c.args.inst.now c.args.day c.base-base.ensures c.case-case.ensures.case c.lines_over.ensures point
