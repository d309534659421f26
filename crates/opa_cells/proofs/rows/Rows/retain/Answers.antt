use Rattle.std.proofs.Common.{rules, sym, ap, ◌∙◌}
use Rattle.std.specs.FinMap as map
use Rattle.opa_cells.specs.Rows.{kept_if}
use Rattle.opa_cells.proofs.Rowed.{rows_retained, get-rows}
use Rattle.opa_cells.proofs.rows.Rows.retain.Goals as goal

pub returns : goal.returns
returns g c n i =
    let keep = g.K.Keeps.keeps c.args.keeper.now in
    get-rows c.retain.new.self.entries n i
    ∙ rows_retained _ keep _ (λ k v b w f' t. search rules) c.self.inside.rows.entries c.retain.new.self.entries c.retain.ensures.filtered n i
    ∙ ap (kept_if (keep n i)) (sym (get-rows c.self.inside.rows.entries n i) ∙ ap (λ m. map.get m (n, i)) c.self.view_is)
