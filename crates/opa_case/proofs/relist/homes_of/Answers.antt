use Rattle.std.specs.Prelude.{Some, cond}
use Rattle.std.proofs.Common.{ap, ◌∙◌}
use Rattle.opa_case.specs.Turns.{is_among}
use Rattle.opa_case.proofs.Housing.{no_homes}
use Rattle.opa_case.proofs.relist.homes_of.Goals as goal

pub add_homes-requires : goal.add_homes-requires
add_homes-requires c i h = no_homes _ c.new-homes.ensures i

pub returns : goal.returns
returns c x = c.in_ok-add_homes.ensures.ok x ∙ ap (cond (is_among c.args.instances.now x) (Some c.args.home.now)) (no_homes _ c.new-homes.ensures x)
