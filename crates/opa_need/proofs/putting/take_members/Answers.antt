use Rattle.std.proofs.lemmas.Result.{on_ok_weaker}
use Rattle.opa_need.proofs.OpeningLaws.{no_member, some_member}
use Rattle.opa_need.proofs.putting.take_members.Goals as goal

pub returns-in-None : goal.returns-in-None
returns-in-None g c =
    let r = g.H.Held.rules c.args.held.now in let held = g.H.Held.held c.args.held.now in
    no_member r held c.args.quant c.args.target c.args.names.now c.args.parts.now c.args.enclosing.now c.args.day c.in_ok-first_member.field-0 c.args.steps.now c.in-None.is c.in_ok-first_member.ensures.member

pub returns-in_ok-put_members-in-Some : goal.returns-in_ok-put_members-in-Some
returns-in_ok-put_members-in-Some g c =
    let r = g.H.Held.rules c.args.held.now in let held = g.H.Held.held c.args.held.now in
    on_ok_weaker c.put_all.result (λ e. some_member r held c.args.quant c.args.target c.args.names.now c.args.parts.now c.args.enclosing.now c.args.day c.in_ok-first_member.field-0 c.in-Some.new c.in-Some.later c.args.steps.now c.put_members.new.steps c.put_all.new.steps c.in-Some.is c.in_ok-first_member.ensures.member c.in_ok-put_members-in-Some.ensures e) c.put_all.ensures
