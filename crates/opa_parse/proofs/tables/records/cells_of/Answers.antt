use Rattle.std.proofs.Common.{◌≡◌, ◌∷◌, ◌++◌, [], ap, sym, ◌∙◌, rules}
use Rattle.csv.specs.Records.{fields_of}
use Rattle.opa_parse.proofs.tables.RecordLaws.{cell_past, cell_next}
use Rattle.opa_parse.proofs.tables.records.cells_of.Goals as goal

pub returns-in-None : goal.returns-in-None
returns-in-None c = c.loop-place.invariant ∙ cell_past (fields_of c.args.row.now) c.loop-place.place (sym c.in-None.ensures.value)

pub loop-place-preserved : goal.loop-place-preserved
loop-place-preserved c =
    let cells = fields_of c.args.row.now in
    let same : c.in_ok-to_vec-in-Some.field-0.items ≡ c.in-Some.cell.now = search rules in
    c.in_ok-push-in-Some.ensures.ok ∙ ap (λ x. c.loop-place.cells ++ x ∷ []) (c.from_vec.ensures ∙ same) ∙ ap (λ xs. xs ++ c.in-Some.cell.now ∷ []) c.loop-place.invariant
    ∙ sym (cell_next cells c.loop-place.place c.in-Some.cell.now (sym c.in-Some.ensures.value))
