use Rattle.std.proofs.Common.{arith, ap, ◌∙◌, ◌≡◌, ◌∷◌}
use Rattle.std.proofs.lemmas.Grind.{common_steps}
use Rattle.std.specs.FinMap as map
use Rattle.opa_cells.specs.Rows.{insert_each, by_number}
use Rattle.opa_cells.proofs.rows.copy_each.Goals as goal

pub loop-number-preserved : goal.loop-number-preserved
loop-number-preserved g c =
    let step : (c.in-Some.number.now, c.in-Some.row.now) ∷ c.next.new.self ≡ c.loop-number.number-iterator = grind (arith, common_steps) in
    let rs = by_number c.loop-number.copied.entries in
    ap (λ m. insert_each m c.next.new.self) (c.in_ok-put.ensures ∙ ap (map.insert rs c.in-Some.number.now) c.in_ok-row.ensures)
    ∙ ap (insert_each rs) step
    ∙ c.loop-number.invariant
