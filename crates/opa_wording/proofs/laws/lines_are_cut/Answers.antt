use Rattle.opa_wording.proofs.ReadableModels.{readable_is_written_holds}
use Rattle.opa_wording.proofs.laws.lines_are_cut.Goals as goal

pub returns-clause-written : goal.returns-clause-written
returns-clause-written c = readable_is_written_holds
