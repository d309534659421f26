use Rattle.std.proofs.Common.{rules}
use Rattle.opa_need.proofs.GoalLaws.{found_at, none_at, none_left}
use Rattle.opa_need.proofs.asking.first_question.Goals as goal

pub returns-then-is_some : goal.returns-then-is_some
returns-then-is_some g c =
    let r = g.H.Held.rules c.args.held.now in let held = g.H.Held.held c.args.held.now in
    found_at r held r.model.goals c.loop-number.number c.in_ok-question.question (search rules) c.in_ok-question.ensures c.loop-number.invariant

pub loop-number-preserved : goal.loop-number-preserved
loop-number-preserved g c =
    let r = g.H.Held.rules c.args.held.now in let held = g.H.Held.held c.args.held.now in
    none_at r held r.model.goals c.loop-number.number c.in_ok-question.question (search rules) (search rules) c.in_ok-question.ensures c.loop-number.invariant

pub returns : goal.returns
returns g c =
    let r = g.H.Held.rules c.args.held.now in let held = g.H.Held.held c.args.held.now in
    none_left r held r.model.goals _ (search rules) c.loop-number.invariant
