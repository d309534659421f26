use Rattle.opa_sentence.proofs.LawsHold.{one_reading_holds}
use Rattle.opa_sentence.proofs.laws.one_meaning.Goals as goal

pub returns-clause-one : goal.returns-clause-one
returns-clause-one c = one_reading_holds
