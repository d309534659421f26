use Rattle.csv.specs.Records.{fields_of}
use Rattle.opa_batch.proofs.CutLaws.{read_on}
use Rattle.opa_batch.proofs.records.cut_next.Goals as goal

pub returns : goal.returns
returns c = read_on c.in-Ok.found (fields_of c.read_byte_record.new.row) c.args.reader.now c.read_byte_record.new.self c.in-Ok.ensures.reads c.in-Ok.ensures.ready
