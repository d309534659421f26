use Rattle.std.proofs.Common.{Some, ◌∙◌, sym, ap, subst}
use Rattle.opa_cells.proofs.Orders.{same_is}
use Rattle.opa_need.specs.Alike.{HasSame}
use Rattle.opa_need.proofs.alike.is_one_place.Goals as goal

pub returns-in-Some-Some : goal.returns-in-Some-Some
returns-in-Some-Some g c = λ yes. subst (λ held. HasSame (g.H.Held.rules c.args.held.now) held c.args.here.now c.args.there.now c.args.entity) c.case-case.ensures.case
    (sym c.in-Some-Some.ensures ∙ ap Some (same_is c.in-Some-Some.one.now c.in-Some-Some.other.now (sym c.equals.ensures ∙ yes)) ∙ c.in-Some-Some.ensures')
