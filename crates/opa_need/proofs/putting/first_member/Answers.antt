use Rattle.std.proofs.Common.{◌≡◌, ◌∙◌, ap, subst, arith, length}
use Rattle.opa_need.specs.Steps.{AreListed, members_needs}
use Rattle.opa_need.proofs.OpeningLaws.{members_pass, members_stop}
use Rattle.opa_need.proofs.putting.first_member.Goals as goal

pub member_steps-requires-clause-listed : goal.member_steps-requires-clause-listed
member_steps-requires-clause-listed g c =
    let r = g.H.Held.rules c.args.held.now in let held = g.H.Held.held c.args.held.now in
    (subst (AreListed r held c.args.target) c.in-Some.ensures c.loop-name.invariant.listed).0

pub returns-then-len-gt0-clause-member : goal.returns-then-len-gt0-clause-member
returns-then-len-gt0-clause-member g c =
    let r = g.H.Held.rules c.args.held.now in let held = g.H.Held.held c.args.held.now in
    members_stop r held c.args.quant c.args.target c.args.names.now c.loop-name.rest.now c.in-Some.later c.in-Some.name.now c.args.parts.now c.args.enclosing.now c.args.day c.in_ok-steps.steps c.in-Some.ensures c.in_ok-steps.ensures.steps (c.loop-name.invariant.needs, c.loop-name.invariant.listed)

pub loop-name-preserved : goal.loop-name-preserved
loop-name-preserved g c =
    let r = g.H.Held.rules c.args.held.now in let held = g.H.Held.held c.args.held.now in
    let passed = members_pass r held c.args.quant c.args.target c.args.names.now c.loop-name.rest.now c.in-Some.later.now c.in-Some.name.now c.args.parts.now c.args.enclosing.now c.args.day c.in_ok-steps.steps c.in-Some.ensures (let none : length c.in_ok-steps.steps ≡ 0 = omega (arith, c.if-len-gt0.false, c.len.ensures) in none) c.in_ok-steps.ensures.steps (c.loop-name.invariant.needs, c.loop-name.invariant.listed) in
    record { needs = passed.0; listed = passed.1; values = c.in_ok-steps.ensures.stay; room = c.in_ok-steps.ensures.room }

pub returns-clause-member : goal.returns-clause-member
returns-clause-member g c =
    let r = g.H.Held.rules c.args.held.now in let held = g.H.Held.held c.args.held.now in
    c.loop-name.invariant.needs ∙ ap (λ names. members_needs r held c.args.quant c.args.target names c.args.parts.now c.args.enclosing.now c.args.day) c.in_default.ensures
