use Rattle.std.proofs.Common.{sym, ap, ◌∙◌, arith, ◌||◌, map}
use Rattle.std.specs.List.{list_any}
use Rattle.opa_saved.specs.Forms.{is_point}
use Rattle.opa_saved.specs.Points.{has_point}
use Rattle.opa_saved.proofs.HomeLaws.{from_place, twice_at, once_at}
use Rattle.opa_saved.proofs.points.are_apart.Goals as goal

pub returns-then-contains_key : goal.returns-then-contains_key
returns-then-contains_key g c =
    let point = g.E.AtPoint.point in
    let x = c.index-entries-at.result in
    let entries = c.args.entries.now in
    let at = c.loop-at.at in
    let split = from_place entries at x c.loop-at-test.true (omega (arith, c.loop-at-test.true, c.loop-at.invariant.within)) c.index-entries-at.is in
    twice_at point entries at x (has_point c.loop-at.later (point x)) split (c.loop-at.invariant.later (point x))
    (ap (has_point c.loop-at.later) (sym c.point-point.ensures) ∙ sym c.contains_key.ensures ∙ c.if-contains_key.true)

pub loop-at-preserved : goal.loop-at-preserved
loop-at-preserved g c =
    let point = g.E.AtPoint.point in
    let x = c.index-entries-at.result in
    let entries = c.args.entries.now in
    let at = c.loop-at.at in
    let split = from_place entries at x c.loop-at-test.true (omega (arith, c.loop-at-test.true, c.loop-at.invariant.within)) c.index-entries-at.is in
    record {
      later = λ q. c.in_ok-add_point.ensures q ∙ ap (λ p. is_point q p || has_point c.loop-at.later q) c.point-point.ensures ∙ ap (λ b. is_point q (point x) || b) (c.loop-at.invariant.later q) ∙ ap (λ xs. list_any (is_point q) (map point xs)) (sym split);
      apart = once_at point entries at x (has_point c.loop-at.later (point x)) split (c.loop-at.invariant.later (point x))
          (ap (has_point c.loop-at.later) (sym c.point-point.ensures) ∙ sym c.contains_key.ensures ∙ c.if-contains_key.false) c.loop-at.invariant.apart;
      within = omega (arith, c.loop-at.invariant.within);
    }
