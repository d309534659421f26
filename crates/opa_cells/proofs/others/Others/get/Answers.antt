use Rattle.std.proofs.Common.{ap, ◌∙◌}
use Rattle.std.specs.FinMap as map
use Rattle.opa_cells.proofs.Inner.{got_by}
use Rattle.opa_cells.proofs.others.Others.get.Goals as goal

pub returns : goal.returns
returns g c = c.get.ensures.value ∙ got_by c.self.inside.cells.entries c.args.inst.now ∙ ap (λ m. map.get m c.args.inst.now) c.self.view_is
