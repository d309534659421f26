use Rattle.std.proofs.Common.{◌∙◌, ◌<◌, length, sym, arith}
use Rattle.opa_decl.proofs.PlaceLaws.{position_within}
use Rattle.opa_decl.proofs.places.Places.place.Goals as goal

pub returns-in-Some-clause-small : goal.returns-in-Some-clause-small
returns-in-Some-clause-small c =
    let below : c.in-Some.place.now < length c.self.inside.texts = position_within c.args.text.now c.self.inside.texts c.in-Some.place.now (sym (c.self.invariant.2 c.args.text.now) ∙ sym c.in-Some.ensures.value) in
    omega (arith, below, c.self.invariant.0)
