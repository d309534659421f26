use Rattle.std.proofs.Common.{◌≡◌, true, ◌∙◌, ap, sym, subst}
use Rattle.std.specs.Prelude.{length}
use Rattle.opa_case.specs.Cases.{CaseView}
use Rattle.opa_case.specs.Instances.{AreInstances}
use Rattle.opa_tree.specs.declared.rulebase.Rulebase.{Rulebase}
use Rattle.opa_mean.specs.Given.{base_of, facts_of}
use Rattle.opa_mean.specs.Rulebases.{IsOf}
use Rattle.opa_report.specs.Promises.{is_point, IsAbout, IsExact, SupportsValue, ListsEntries, HasDays, Keeps}
use Rattle.opa_report.proofs.Ingredients.{are_of, there_is_point}
use Rattle.opa_report.proofs.Promised.{some_weaker, held_whole, report_kept}
use Rattle.opa_report.proofs.whole.lines_over.Goals as goal

pub returns : goal.returns
returns g c = λ sees point.
    let r = c.args.base.now in let k = c.args.case.now in
    let p = there_is_point r k c.requires.fits c.args.attr c.args.inst.now c.args.day point in
    let lists = c.as_slice-lists.result.now in
    let are : AreInstances (length r.model.entities) k lists = subst (AreInstances (length r.model.entities) k) (sym c.as_slice-lists.ensures) c.in_ok-live.ensures in
    c.report_lines.ensures (facts_of k) sees
    (are_of r k c.requires.fits lists are c.as_slice-slot_items.result.now c.as_slice-key_items.result.now c.as_slice-inst_items.result.now
    (c.as_slice-slot_items.ensures ∙ c.in_ok-all_slots.ensures) (c.as_slice-key_items.ensures ∙ c.in_ok-all_keys.ensures) (c.as_slice-inst_items.ensures ∙ c.in_ok-instances.ensures))
    p.live p.own p.placed
