use Rattle.std.proofs.Common.{ap, sym, ◌∙◌}
use Rattle.std.specs.FinMap as map
use Rattle.opa_cells.proofs.Ones.{got_held, got_other}
use Rattle.opa_cells.proofs.row.Row.get.Goals as goal

pub returns-then-is_held : goal.returns-then-is_held
returns-then-is_held g c =
    c.held.ensures ∙ got_held c.self.inside.one c.self.inside.others c.args.inst.now (sym c.is_held.ensures ∙ c.if-is_held.true) ∙ ap (λ m. map.get m c.args.inst.now) c.self.view_is

pub returns-else-is_held : goal.returns-else-is_held
returns-else-is_held g c =
    c.get.ensures ∙ got_other c.self.inside.one c.self.inside.others c.args.inst.now (sym c.is_held.ensures ∙ c.if-is_held.false) ∙ ap (λ m. map.get m c.args.inst.now) c.self.view_is
