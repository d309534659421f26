use Rattle.std.proofs.Common.{◌≡◌, true, ◌∙◌, ap, sym, subst}
use Rattle.std.specs.Prelude.{length}
use Rattle.opa_case.specs.Cases.{CaseView}
use Rattle.opa_case.specs.Instances.{AreInstances}
use Rattle.opa_tree.specs.declared.rulebase.Rulebase.{Rulebase}
use Rattle.opa_mean.specs.Given.{base_of, facts_of}
use Rattle.opa_mean.specs.Rulebases.{IsOf}
use Rattle.opa_report.specs.Promises.{is_point, IsAbout, IsExact, SupportsValue, ListsEntries, HasDays, Keeps}
use Rattle.opa_report.proofs.Ingredients.{are_of, there_is_point}
use Rattle.opa_report.proofs.Promised.{some_weaker, held_whole, report_kept}
use Rattle.opa_report.proofs.whole.about.Goals as goal

pub returns-in_ok-inst-clause-kept : goal.returns-in_ok-inst-clause-kept
returns-in_ok-inst-clause-kept g c =
    let r = g.H.Held.rules c.args.held.now in let k = g.H.Held.held c.args.held.now in
    let point : is_point r k c.args.attr c.args.inst.now ≡ true =
    sym (sym c.if-is_point.true ∙ c.is_point.ensures ∙ ap (λ (r : Rulebase). is_point r c.case-case.result.now c.args.attr c.args.inst.now) c.base-base.ensures
    ∙ ap (λ (k : CaseView). is_point (g.H.Held.rules c.args.held.now) k c.args.attr c.args.inst.now) c.case-case.ensures.case) in
    report_kept r k c.case-case.ensures.fits c.args.attr c.args.inst.now _ c.args.day _ point c.in_ok-inst.ensures (c.in_ok-lines.ensures point)
