use Rattle.std.proofs.Common.{Some, ◌∙◌, sym, ap}
use Rattle.std.specs.Option.{option_copied}
use Rattle.opa_cells.proofs.Orders.{same_is}
use Rattle.opa_verify.proofs.listed.alike.is_one.Goals as goal

pub returns-in-Some-other-2 : goal.returns-in-Some-other-2
returns-in-Some-other-2 c = λ yes. ap option_copied c.in-Some.is ∙ ap Some (same_is c.in-Some.one.now c.in-Some-other-2.other.now (sym c.equals.ensures ∙ yes)) ∙ sym (ap option_copied c.in-Some-other-2.is)
