use Rattle.opa_parse.proofs.tables.LawsHold.{one_table_holds}
use Rattle.opa_parse.proofs.tables.laws.one_table.Goals as goal

pub returns : goal.returns
returns c = one_table_holds
