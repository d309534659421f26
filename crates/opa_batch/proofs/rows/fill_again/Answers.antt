use Rattle.std.proofs.Common.{◌≡◌, ◌++◌, ◌∷◌, []}
use Rattle.std.specs.Fmt.{decimal}
use Rattle.csv.specs.Records.{fields_of}
use Rattle.opa_batch.proofs.SameLaws.{again_more, again_short}
use Rattle.opa_batch.proofs.rows.fill_again.Goals as goal

pub returns-in_default : goal.returns-in_default
returns-in_default c = again_short (decimal c.args.number) (fields_of c.args.known.now) c.get.result c.loop-place.place (fields_of c.loop-place.row) c.in_default.is c.get.ensures.value c.loop-place.invariant.cells

pub loop-place-preserved : goal.loop-place-preserved
loop-place-preserved c =
    let grown : fields_of c.add_cell.new.row ≡ fields_of c.loop-place.row ++ c.in-Some.cell.now ∷ [] = c.in_ok-add_cell.ensures.cells in
    record {
      cells = again_more (decimal c.args.number) (fields_of c.args.known.now) c.loop-place.place (fields_of c.loop-place.row) (fields_of c.add_cell.new.row) c.in-Some.cell.now c.in-Some.ensures.value grown c.loop-place.invariant.cells;
      whole = c.in_ok-add_cell.ensures.whole;
    }
