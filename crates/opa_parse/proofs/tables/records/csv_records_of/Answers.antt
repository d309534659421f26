use Rattle.opa_parse.proofs.tables.RecordLaws.{records-reached}
use Rattle.opa_parse.proofs.tables.records.csv_records_of.Goals as goal

pub returns-in-Ok : goal.returns-in-Ok
returns-in-Ok c = records-reached _ _ c.in-Ok.ensures
