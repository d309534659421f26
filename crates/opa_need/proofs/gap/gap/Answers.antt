use Rattle.std.proofs.Common.{length, refl, sym, ◌∙◌, ap, arith}
use Rattle.opa_case.specs.Cases.{list_of}
use Rattle.opa_case.specs.Shapes.{shape_of}
use Rattle.opa_tree.specs.declared.rulebase.Rulebase.{Rulebase}
use Rattle.opa_mean.specs.Needs.{gap_by}
use Rattle.opa_need.proofs.Gaps.{gap_above, gap_here, gap_last}
use Rattle.opa_need.proofs.gap.gap.Goals as goal

pub loop-steps-preserved : goal.loop-steps-preserved
loop-steps-preserved g c =
    let s = shape_of (g.H.Held.rules c.args.held.now).model in let members = list_of (g.H.Held.held c.args.held.now) in
    c.loop-steps.invariant ∙ gap_above s members c.loop-steps.steps _ c.loop-steps.entity _ c.loop-steps-test.true refl c.nest_of-parent.ensures.parent (sym c.in-None.is ∙ c.in_ok-walk.ensures)

pub returns-in-Some : goal.returns-in-Some
returns-in-Some g c =
    let s = shape_of (g.H.Held.rules c.args.held.now).model in let members = list_of (g.H.Held.held c.args.held.now) in
    sym (ap (λ n. gap_by s members n c.args.entity) (sym (c.entity_count-steps.ensures.count ∙ ap (λ (r : Rulebase). length r.model.entities) c.base.ensures)) ∙ c.loop-steps.invariant ∙ gap_here s members c.loop-steps.steps _ c.loop-steps.entity _ _ _ _ _ c.loop-steps-test.true refl c.nest_of-parent.ensures.parent (sym c.in-Some.is ∙ c.in_ok-walk.ensures) c.nest_of-parent.ensures.contained c.as_slice.ensures c.in_ok-inst-in-Some.ensures)

pub returns : goal.returns
returns g c =
    let s = shape_of (g.H.Held.rules c.args.held.now).model in let members = list_of (g.H.Held.held c.args.held.now) in
    sym (ap (λ n. gap_by s members n c.args.entity) (sym (c.entity_count-steps.ensures.count ∙ ap (λ (r : Rulebase). length r.model.entities) c.base.ensures)) ∙ c.loop-steps.invariant ∙ gap_last s members c.loop-steps.steps c.loop-steps.entity _ _ (omega (arith, c.loop-steps-test.false)) c.nest_of.ensures.contained c.in_ok-inst.ensures)
