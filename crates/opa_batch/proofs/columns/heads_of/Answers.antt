use Rattle.std.proofs.Common.{◌≤◌, ◌+◌, length, subst, sym, arith}
use Rattle.std.proofs.lemmas.List.{drop_all}
use Rattle.csv.specs.Records.{fields_of}
use Rattle.opa_batch.specs.Columns.{AreTaken}
use Rattle.opa_batch.proofs.CellLaws.{missing}
use Rattle.opa_batch.proofs.HeadLaws.{past, taken_end, taken_fault, taken_more}
use Rattle.opa_batch.proofs.columns.heads_of.Goals as goal

pub returns-in_default : goal.returns-in_default
returns-in_default c =
    taken_end c.args.model.now (fields_of c.args.row.now) c.loop-place.place c.loop-place.heads c.loop-place.invariant
    (past (fields_of c.args.row.now) c.loop-place.place (missing c.get.result (fields_of c.args.row.now) c.loop-place.place c.in_default.is c.get.ensures.value))

pub returns-in-Err : goal.returns-in-Err
returns-in-Err c =
    taken_fault c.args.model.now (fields_of c.args.row.now) c.loop-place.place c.loop-place.heads c.loop-place.invariant c.in-Some.cell.now c.in-Some.ensures.value c.in-Err.fault c.in_ok-text-in-Err.text c.in_ok-text-in-Err.ensures.some
    c.in-Err.ensures.fault c.in_ok-text-in-Err.ensures.text

pub loop-place-preserved : goal.loop-place-preserved
loop-place-preserved c =
    subst (AreTaken c.args.model.now (fields_of c.args.row.now) (c.loop-place.place + 1)) (sym c.in_ok-push-in-Ok.ensures.ok)
    (taken_more c.args.model.now (fields_of c.args.row.now) c.loop-place.place c.loop-place.heads c.loop-place.invariant c.in-Some.cell.now c.in-Some.ensures.value c.in-Ok.head c.in-Ok.ensures.ok)

pub returns : goal.returns
returns c =
    let le : length (fields_of c.args.row.now) ≤ c.loop-place.place = omega arith in
    taken_end c.args.model.now (fields_of c.args.row.now) c.loop-place.place c.loop-place.heads c.loop-place.invariant (drop_all c.loop-place.place (fields_of c.args.row.now) le)
