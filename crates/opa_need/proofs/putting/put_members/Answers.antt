use Rattle.std.proofs.Common.{subst, sym}
use Rattle.std.proofs.lemmas.Result.{on_ok_weaker}
use Rattle.opa_need.specs.Members.{AreOfOperands}
use Rattle.opa_need.proofs.OpeningLaws.{members_on}
use Rattle.opa_need.proofs.putting.put_members.Goals as goal

pub returns : goal.returns
returns g c =
    let r = g.H.Held.rules c.args._held.now in let held = g.H.Held.held c.args._held.now in
    on_ok_weaker c.push.result (λ e. members_on r held c.args.quant c.args.target c.args.names c.args.parts _ c.args.enclosing.now _ c.args.day _ _ c.in_ok-enclosing.ensures c.requires.live c.requires.day c.requires.listed (subst (AreOfOperands r held c.args.parts.now) (sym c.moved-values.ensures) c.requires.of) e) c.push.ensures.ok
