use Rattle.std.proofs.Common.{◌<◌, subst, sym, arith}
use Rattle.opa_line.specs.Growth.{Entered}
use Rattle.opa_line.specs.Holding.{pairs_begun}
use Rattle.opa_line.proofs.Growing.{grown}
use Rattle.opa_line.proofs.builder.Builder.until.Goals as goal

pub invariant_of-self-in-Many : goal.invariant_of-self-in-Many
invariant_of-self-in-Many g c =
    let lt : c.self.inside.upto < c.args.day = omega (arith, c.if-self-day.false) in
    let entered = subst (λ pairs. Entered (pairs_begun pairs) c.self.inside.upto c.args.value c.enter.new.pairs.items) (sym c.in-Many.is) c.in_ok-enter.ensures.ok in
    (c.requires, (grown c.self.inside.upto c.args.day (pairs_begun c.self.inside.pairs) c.enter.new.pairs.items c.args.value c.self.invariant.1 lt entered).0)

pub returns-in-Many : goal.returns-in-Many
returns-in-Many g c =
    let lt : c.self.inside.upto < c.args.day = omega (arith, c.if-self-day.false) in
    let entered = subst (λ pairs. Entered (pairs_begun pairs) c.self.inside.upto c.args.value c.enter.new.pairs.items) (sym c.in-Many.is) c.in_ok-enter.ensures.ok in
    rw (← c.self.view_is) (grown c.self.inside.upto c.args.day (pairs_begun c.self.inside.pairs) c.enter.new.pairs.items c.args.value c.self.invariant.1 lt entered).1

pub invariant_of-self-2 : goal.invariant_of-self-2
invariant_of-self-2 g c =
    let lt : c.self.inside.upto < c.args.day = omega (arith, c.if-self-day.false) in
    let entered = subst (λ pairs. Entered (pairs_begun pairs) c.self.inside.upto c.args.value (pairs_begun c.in_ok-after.after)) c.replace-before.ensures.value c.in_ok-after.ensures in
    (c.requires, (grown c.self.inside.upto c.args.day (pairs_begun c.self.inside.pairs) (pairs_begun c.in_ok-after.after) c.args.value c.self.invariant.1 lt entered).0)

pub returns : goal.returns
returns g c =
    let lt : c.self.inside.upto < c.args.day = omega (arith, c.if-self-day.false) in
    let entered = subst (λ pairs. Entered (pairs_begun pairs) c.self.inside.upto c.args.value (pairs_begun c.in_ok-after.after)) c.replace-before.ensures.value c.in_ok-after.ensures in
    rw (← c.self.view_is) (grown c.self.inside.upto c.args.day (pairs_begun c.self.inside.pairs) (pairs_begun c.in_ok-after.after) c.args.value c.self.invariant.1 lt entered).1
