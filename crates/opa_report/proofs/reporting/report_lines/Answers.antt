use Rattle.std.proofs.Common.{sym, subst}
use Rattle.opa_mean.specs.Given.{base_of}
use Rattle.opa_mean.specs.Uses.{Point}
use Rattle.opa_report.specs.Walking.{AreSlots}
use Rattle.opa_report.proofs.Joining.{whole}
use Rattle.opa_report.proofs.reporting.report_lines.Goals as goal

pub returns : goal.returns
returns g c = λ facts sees of live own lies.
    let b = base_of c.args.base.now in
    whole b facts (Point c.args.attr c.args.inst.now c.args.day) c.args.slots.now c.args.keys.now c.args.instances.now c.in_ok-found.found _ _ _ _ _ _ _ of lies
    (c.in_ok-found.ensures facts sees of.falls of.facts (subst (AreSlots b facts) (sym of.slots_are) of.are_slots) live own)
    c.new-owned.ensures (c.in_ok-mark_points.ensures b facts sees) (c.in_ok-mark_lists.ensures b facts sees)
    (c.in_ok-lines.ensures b facts sees (subst (AreSlots b facts) (sym of.slots_are) of.are_slots)) (c.in_ok-listed.ensures b facts sees) c.in_ok-append.ensures (c.in_ok-add_members.ensures b facts sees)
