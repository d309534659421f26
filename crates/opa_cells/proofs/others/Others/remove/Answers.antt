use Rattle.std.proofs.Common.{ap, ◌∙◌}
use Rattle.std.specs.Prelude.{is_some}
use Rattle.std.specs.FinMap as map
use Rattle.opa_cells.proofs.Inner.{got_by, cells_taken}
use Rattle.opa_cells.proofs.others.Others.remove.Goals as goal

pub returns-clause-was : goal.returns-clause-was
returns-clause-was g c =
    c.is_some.ensures ∙ ap is_some (c.remove.ensures.value ∙ got_by c.self.inside.cells.entries c.args.inst.now ∙ ap (λ m. map.get m c.args.inst.now) c.self.view_is)

pub returns-clause-removed : goal.returns-clause-removed
returns-clause-removed g c =
    cells_taken c.self.inside.cells.entries c.remove.new.self.entries c.args.inst.now c.remove.ensures.updates.0 ∙ ap (λ m. map.remove m c.args.inst.now) c.self.view_is
