use Rattle.std.proofs.Common.{Some, ◌∙◌, sym, ap}
use Rattle.opa_verify.proofs.listed.alike.is_one_place.Goals as goal

pub returns-in-Some-Some : goal.returns-in-Some-Some
returns-in-Some-Some g c = λ yes. sym c.in-Some-Some.ensures ∙ ap Some (c.is_one.ensures yes) ∙ c.in-Some-Some.ensures'
