use Rattle.std.proofs.Common.{arith, subst}
use Rattle.opa_io.proofs.Results.{on_ok_then}
use Rattle.opa_line.specs.Growth.{Grown}
use Rattle.opa_window.proofs.Anniversaries.{few_years, counting_next, counting_end, nearer}
use Rattle.opa_window.proofs.years.count_on.Goals as goal

pub next_anniversary-next-requires-clause-few : goal.next_anniversary-next-requires-clause-few
next_anniversary-next-requires-clause-few c =
    let few = few_years c.args.day c.requires.in_calendar c.args.from c.args.reached (omega (arith, c.requires.order, c.requires.below)) c.requires.later c.requires.years in
    omega (arith, few)

pub overflow_add-years : goal.overflow_add-years
overflow_add-years c =
    let count = c.loop-next.invariant in
    let few = few_years c.args.day c.requires.in_calendar c.loop-next.out.0 c.loop-next.years (omega (arith, count.inside, c.requires.below)) count.begun count.told in
    omega (arith, few)

pub next_anniversary-next-requires-in-loop-next-clause-few : goal.next_anniversary-next-requires-in-loop-next-clause-few
next_anniversary-next-requires-in-loop-next-clause-few c =
    let count = c.loop-next.invariant in
    let few = few_years c.args.day c.requires.in_calendar c.loop-next.out.0 c.loop-next.years (omega (arith, count.inside, c.requires.below)) count.begun count.told in
    omega (arith, few)

pub loop-next-smaller : goal.loop-next-smaller
loop-next-smaller c = nearer c.args.day c.requires.in_calendar c.args.out.now c.loop-next.out c.args.to c.loop-next.years c.loop-next.next _ c.requires.below c.loop-next.invariant c.loop-next-test.true c.next_anniversary-next-in-loop-next.ensures

pub loop-next-preserved : goal.loop-next-preserved
loop-next-preserved c =
    let grown = subst (λ v. Grown c.loop-next.out c.loop-next.next v c.until.new.self) c.whole.ensures c.in_ok-until.ensures in
    counting_next c.args.day c.requires.in_calendar c.args.out.now c.until.new.self c.loop-next.out c.args.to c.loop-next.years c.loop-next.next _ c.requires.below c.loop-next.invariant c.loop-next-test.true grown c.next_anniversary-next-in-loop-next.ensures

pub returns : goal.returns
returns c =
    on_ok_then c.until-2.result _ _ (λ h.
    let grown = subst (λ v. Grown c.loop-next.out c.args.to v c.until-2.new.self) c.whole-2.ensures h in
    counting_end c.args.day c.requires.in_calendar c.args.out.now c.until-2.new.self c.loop-next.out c.args.to c.loop-next.years c.loop-next.next c.requires.below c.loop-next.invariant c.loop-next-test.false grown) c.until-2.ensures
