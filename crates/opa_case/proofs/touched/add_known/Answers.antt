use Rattle.std.proofs.Common.{map, ap, ◌∙◌}
use Rattle.opa_cells.specs.Rows.{seen}
use Rattle.opa_case.proofs.Touching.{adds_known}
use Rattle.opa_case.proofs.touched.add_known.Goals as goal

pub returns : goal.returns
returns c = adds_known c.args.keys.now c.add_cells.new.keys c.args.lists.now c.deref.result.now (ap (map seen) c.deref.ensures.value ∙ c.in_ok-cells.ensures) c.in_ok-add_cells.ensures
