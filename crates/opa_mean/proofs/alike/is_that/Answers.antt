use Rattle.std.proofs.Common.{Some, sym, ◌∙◌, ap}
use Rattle.std.specs.Option.{option_copied}
use Rattle.opa_cells.proofs.Orders.{same_is}
use Rattle.opa_mean.proofs.alike.is_that.Goals as goal

pub returns-in-Some : goal.returns-in-Some
returns-in-Some c = λ true. ap Some (same_is c.args.one.now c.in-Some.other.now (sym c.equals.ensures ∙ true)) ∙ sym (ap option_copied c.in-Some.is)
