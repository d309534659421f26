use Rattle.std.specs.Prelude.{Some}
use Rattle.csv.specs.Records.{fields_of}
use Rattle.opa_batch.proofs.KeptLaws.{row_again}
use Rattle.opa_batch.proofs.kept.add_known.Goals as goal

pub returns : goal.returns
returns c = λ r heads are.
    row_again r heads c.args.number (fields_of c.args.row.now) (λ v. Some v.items) c.args.kept.now c.args.out.now c.add_row.new.rows c.in-Some.known.now (fields_of c.fill_again.new.row) c.in-Some.ensures c.in_ok-fill_again.ensures
    c.in_ok-add_row.ensures are
