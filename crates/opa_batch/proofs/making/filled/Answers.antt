use Rattle.std.specs.Prelude.{Some}
use Rattle.opa_batch.specs.Batches.{heading, written_row}
use Rattle.opa_batch.specs.Cutting.{below}
use Rattle.opa_batch.proofs.MakingLaws.{rows_end}
use Rattle.opa_batch.proofs.making.filled.Goals as goal

pub returns-clause-rows : goal.returns-clause-rows
returns-clause-rows g c =
    let first = written_row (heading c.args.base) in
    rows_end (λ v. Some v.items) c.args.out c.with_rows.new.out c.args.base c.args.heads.now (below c.args.bytes.now) first c.in_ok-text.text.items c.requires.begun c.in_ok-with_rows.ensures.rows c.in_ok-text.ensures
