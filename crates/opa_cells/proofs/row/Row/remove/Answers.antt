use Rattle.std.specs.Prelude.{is_some}
use Rattle.std.proofs.Common.{ap, sym, ◌∙◌}
use Rattle.std.specs.FinMap as map
use Rattle.opa_cells.specs.Rows.{with_one}
use Rattle.opa_cells.proofs.Ones.{got_other, held_some, removed_held, removed_other}
use Rattle.opa_cells.proofs.row.Row.remove.Goals as goal

pub returns-then-is_held-clause-was : goal.returns-then-is_held-clause-was
returns-then-is_held-clause-was g c =
    sym (held_some c.self.inside.one c.self.inside.others c.args.inst.now (sym c.is_held.ensures ∙ c.if-is_held.true)) ∙ ap (λ m. is_some (map.get m c.args.inst.now)) c.self.view_is

pub returns-then-is_held-clause-removed : goal.returns-then-is_held-clause-removed
returns-then-is_held-clause-removed g c =
    c.remove.ensures.removed ∙ removed_held c.self.inside.one c.self.inside.others c.args.inst.now (sym c.is_held.ensures ∙ c.if-is_held.true) ∙ ap (λ m. map.remove m c.args.inst.now) c.self.view_is

pub returns-clause-was : goal.returns-clause-was
returns-clause-was g c =
    c.remove-2.ensures.was ∙ ap is_some (got_other c.self.inside.one c.self.inside.others c.args.inst.now (sym c.is_held.ensures ∙ c.if-is_held.false) ∙ ap (λ m. map.get m c.args.inst.now) c.self.view_is)

pub returns-clause-removed : goal.returns-clause-removed
returns-clause-removed g c =
    ap (with_one c.self.inside.one) c.remove-2.ensures.removed ∙ removed_other c.self.inside.one c.self.inside.others c.args.inst.now (sym c.is_held.ensures ∙ c.if-is_held.false) ∙ ap (λ m. map.remove m c.args.inst.now) c.self.view_is
