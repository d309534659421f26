use Rattle.opa_value.proofs.Spelling.{read_spelled, spelled_read}
use Rattle.opa_value.proofs.laws.reading_is_spelling.Goals as goal

pub returns-clause-only : goal.returns-clause-only
returns-clause-only c = read_spelled

pub returns-clause-each : goal.returns-clause-each
returns-clause-each c = spelled_read
