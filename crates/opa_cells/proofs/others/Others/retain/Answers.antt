use Rattle.std.proofs.Common.{rules, ap, ◌∙◌}
use Rattle.std.specs.FinMap as map
use Rattle.opa_cells.specs.Rows.{kept_if}
use Rattle.opa_cells.proofs.Rowed.{cells_retained}
use Rattle.opa_cells.proofs.Inner.{row_retained, hash_distinct}
use Rattle.opa_cells.proofs.others.Others.retain.Goals as goal

pub returns : goal.returns
returns g c i =
    let keep = g.K.Keeps.keeps c.args.keeper.now c.args.number in
    let es = c.self.inside.cells.entries in
    row_retained keep es c.retain.new.self.entries (cells_retained _ keep _ (λ k v b w f' t. search rules) es c.retain.new.self.entries (hash_distinct es c.retain.ensures.was_unique) c.retain.ensures.filtered) i
    ∙ ap (λ m. kept_if (keep i) (map.get m i)) c.self.view_is
