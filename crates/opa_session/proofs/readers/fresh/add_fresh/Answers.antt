use Rattle.std.proofs.Common.{refl}
use Rattle.opa_session.proofs.readers.Renewed.{adds_fresh, adds_stale}
use Rattle.opa_session.proofs.readers.fresh.add_fresh.Goals as goal

pub returns-in_ok-push : goal.returns-in_ok-push
returns-in_ok-push c =
    adds_fresh c.args.base.now c.args.old.now c.args.new.now c.args.attr c.args.inst.now c.in_ok-fresh.fresh c.args.found.now c.push.new.self (record { attr = c.args.attr; inst = c.in_ok-inst.inst })
    c.in_ok-fresh.ensures c.if-fresh.true c.in_ok-push.ensures.ok refl c.in_ok-inst.ensures

pub returns-else-fresh : goal.returns-else-fresh
returns-else-fresh c = adds_stale c.args.base.now c.args.old.now c.args.new.now c.args.attr c.args.inst.now c.in_ok-fresh.fresh c.args.found.now c.in_ok-fresh.ensures c.if-fresh.false
