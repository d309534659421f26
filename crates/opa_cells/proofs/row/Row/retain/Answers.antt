use Rattle.std.proofs.Common.{ap, ◌∙◌}
use Rattle.std.specs.FinMap as map
use Rattle.opa_cells.specs.Rows.{kept_if, with_one, without, one_kept}
use Rattle.opa_cells.proofs.Ones.{row_kept}
use Rattle.opa_cells.proofs.row.Row.retain.Goals as goal

pub returns : goal.returns
returns g c i =
    let keep = g.K.Keeps.keeps c.args.keeper.now c.args.number in
    let m = c.self.inside.others in
    ap (λ o. map.get (with_one o c.retain.new.self) i) (c.replace-none.ensures.after ∙ c.kept-kept.ensures ∙ ap (one_kept keep) c.take-one.ensures.value)
    ∙ row_kept keep c.self.inside.one m c.retain.new.self (λ j. c.retain.ensures j ∙ ap (λ x. kept_if (keep j) (map.get x j)) (c.take_out.ensures ∙ ap (without m) c.take-one.ensures.value)) i
    ∙ ap (λ x. kept_if (keep i) (map.get x i)) c.self.view_is
