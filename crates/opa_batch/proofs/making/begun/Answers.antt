use Rattle.std.specs.Prelude.{Some}
use Rattle.csv.specs.Records.{fields_of}
use Rattle.opa_batch.proofs.MakingLaws.{heading_begins}
use Rattle.opa_batch.proofs.making.begun.Goals as goal

pub returns : goal.returns
returns c =
    heading_begins (λ v. Some v.items) c.no_rows-out.result c.add_row.new.rows c.args.base.now (fields_of c.fill_heading.new.row) c.no_rows-out.ensures c.in_ok-fill_heading.ensures c.in_ok-add_row.ensures
