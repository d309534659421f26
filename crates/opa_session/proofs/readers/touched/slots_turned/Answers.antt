use Rattle.std.proofs.Common.{sym, subst}
use Rattle.opa_case.specs.Live.{Population}
use Rattle.opa_case.specs.Overlays.{relisted_case}
use Rattle.opa_case.specs.Turns.{Turns}
use Rattle.opa_session.proofs.readers.Touching.{have_turned}
use Rattle.opa_session.proofs.readers.touched.slots_turned.Goals as goal

pub returns : goal.returns
returns c =
    let held = c.args.next.now.case.now in let next = relisted_case c.args.next.now in
    have_turned c.args.base.now held next c.went-went.result.now c.came-came.result.now c.args.next.now.inst.now
    (subst (λ (gone : Population). Turns held.live next.live gone c.came-came.result.now c.args.next.now.inst.now) (sym c.went-went.ensures) c.came-came.ensures.turns)
    c.new-slots.result c.add_each.new.slots c.add_each-2.new.slots c.new-slots.ensures c.in_ok-add_each.ensures c.in_ok-add_each-2.ensures
