use Rattle.std.proofs.Common.{◌≡◌, length}
use Rattle.opa_need.specs.Inner.{HasRoom}
use Rattle.opa_need.specs.Members.{AreOfOperands}
use Rattle.opa_need.specs.Steps.{AreListed, members_needs}
use Rattle.opa_need.proofs.putting.first_member.Given as goal

-- the members that are left have the needs of all
abbrev pub invariant-loop-name : goal.invariant-loop-name
invariant-loop-name g l =
    let r = g.H.Held.rules l.held in let held = g.H.Held.held l.held in
    record {
      needs : members_needs r held l.quant l.target l.names l.parts l.enclosing l.day ≡ members_needs r held l.quant l.target l.rest l.parts l.enclosing l.day;
      listed : AreListed r held l.target l.rest;
      values : AreOfOperands r held l.parts l.values;
      room : HasRoom l.enclosing l.inner;
    }

abbrev pub decreases-loop-name : goal.decreases-loop-name
decreases-loop-name g l = length l.rest
