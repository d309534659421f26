use Rattle.std.proofs.Common.{ap, sym, ◌∙◌, Bool, true, false, ◌≡◌, not}
use Rattle.std.specs.Prelude.{is_some}
use Rattle.std.specs.FinMap as map
use Rattle.opa_cells.proofs.Inner.{got_by, cells_put}
use Rattle.opa_cells.proofs.others.Others.insert.Goals as goal

other_way : (a b : Bool) → a ≡ not b → b ≡ not a
other_way a true h = ap not (sym h)
other_way a false h = ap not (sym h)

pub returns-in-Ok-clause-new : goal.returns-in-Ok-clause-new
returns-in-Ok-clause-new g c =
    other_way _ c.is_none.result c.is_none.ensures
    ∙ ap (λ o. not (is_some o)) (c.in-Ok.ensures.old ∙ got_by c.self.inside.cells.entries c.args.inst ∙ ap (λ m. map.get m c.args.inst) c.self.view_is)

pub returns-in-Ok-clause-ok : goal.returns-in-Ok-clause-ok
returns-in-Ok-clause-ok g c =
    cells_put c.self.inside.cells.entries c.insert.new.self.entries c.args.inst c.args.value c.in-Ok.ensures.updates.0 ∙ ap (λ m. map.insert m c.args.inst c.args.value) c.self.view_is
