use Rattle.std.proofs.Common.{◌∙◌, sym, ap, Some}
use Rattle.std.specs.Option.{option_copied}
use Rattle.opa_cells.proofs.Orders.{same_is}
use Rattle.opa_code.proofs.kept.is_spot.Goals as goal

pub returns-in-Some : goal.returns-in-Some
returns-in-Some g c = λ true. sym c.place_in.ensures ∙ ap option_copied c.in-Some.is ∙ ap Some (same_is c.in-Some.inst.now c.args.spot.now.inst (sym c.equals.ensures ∙ true))
