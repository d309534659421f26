use Rattle.std.specs.Prelude.{Some}
use Rattle.csv.specs.Records.{fields_of}
use Rattle.opa_batch.proofs.WriterLaws.{row_adds}
use Rattle.opa_batch.proofs.csv_rows.add_row.Goals as goal

pub returns : goal.returns
returns c =
    row_adds (λ v. Some v.items) c.args.rows.now c.write_byte_record.new.self (fields_of c.args.row.now) c.in-Ok.ensures.bytes c.in-Ok.ensures.ended c.in-Ok.ensures.clean c.in-Ok.ensures.setup
