use Rattle.std.proofs.Common.{length, sym, ap, ◌∙◌, subst, arith}
use Rattle.std.specs.Vec.Iter.{into_iter_items}
use Rattle.opa_date.specs.declared.TheConstants.{DAYS}
use Rattle.opa_line.specs.Lines.{at}
use Rattle.opa_line.specs.Growth.{Grown}
use Rattle.opa_line.proofs.Merging.{Merging, merging_next, merging_end, none_left}
use Rattle.opa_line.proofs.pairs.merged.Goals as goal

pub loop-day-preserved : goal.loop-day-preserved
loop-day-preserved g c =
    let steps = c.in-Some-2.ensures.steps in
    let count = ap (λ l. length l) steps.0 in
    let m = subst (λ l. Merging DAYS c.args.pairs.items c.loop-day.value l c.loop-day.out) steps.0 c.loop-day.invariant.merging in
    let grown = subst (λ v. Grown c.loop-day.out c.in-Some-2.day v c.until.new.self) c.replace-before.ensures.value c.in_ok-until.ensures in
    record {
      sized = omega (arith, steps.1, count, c.loop-day.invariant.sized);
      merging = subst (λ w. Merging DAYS c.args.pairs.items w (into_iter_items c.next-in-loop-day.new.self) c.until.new.self) (sym c.replace-before.ensures.after)
          (merging_next DAYS c.args.pairs.items c.loop-day.value c.in-Some-2.day c.in-Some-2.next _ _ _ m grown);
    }

pub returns : goal.returns
returns g c =
    let none = none_left (into_iter_items c.loop-day.day-iterator) (omega (arith, c.in-None.ensures.steps, c.loop-day.invariant.sized)) in
    let e = merging_end DAYS c.args.pairs.items c.loop-day.value _ _ _ c.loop-day.invariant.merging none c.in_ok-until-2.ensures in
    λ d lt. ap (λ l. at l d) c.finish.ensures ∙ e.1 d lt
