use Rattle.std.proofs.Common.{◌≡◌, ◌∙◌, true, false, length, sym, ap, rules, arith}
use Rattle.std.specs.Prelude.{slice_get}
use Rattle.opa_mean.specs.Goals.States.{is_known}
use Rattle.opa_mean.proofs.goals.Knowing.{found_there, found_later, found_none}
use Rattle.opa_mean.proofs.goals.states.open_goal.Goals as goal

pub returns-then-not-is_known : goal.returns-then-not-is_known
returns-then-not-is_known g c =
    let r = g.H.Held.rules c.args.held.now in let held = g.H.Held.held c.args.held.now in
    let open_ : c.is_known.result ≡ false = search rules in
    found_there (is_known r held) r.model.goals c.loop-number.number c.goal_of-attr.result c.goal_of-attr.ensures.goal (sym c.is_known.ensures ∙ open_) c.loop-number.invariant

pub loop-number-preserved : goal.loop-number-preserved
loop-number-preserved g c =
    let r = g.H.Held.rules c.args.held.now in let held = g.H.Held.held c.args.held.now in
    let known : c.is_known.result ≡ true = search rules in
    found_later (is_known r held) r.model.goals c.loop-number.number c.goal_of-attr.result c.goal_of-attr.ensures.goal (sym c.is_known.ensures ∙ known) c.loop-number.invariant

pub returns : goal.returns
returns g c =
    let r = g.H.Held.rules c.args.held.now in let held = g.H.Held.held c.args.held.now in
    let over : length r.model.goals ≡ c.goal_count-count.result = search rules in
    let done : c.loop-number.number ≡ c.goal_count-count.result = omega (arith, c.loop-number-test.false, c.loop-number.auto.number-end) in
    sym (ap (slice_get r.model.goals) done) ∙ found_none (is_known r held) r.model.goals c.loop-number.number (done ∙ sym over) c.loop-number.invariant
