use Rattle.opa_words.proofs.OneCut.{one_longest_holds}
use Rattle.opa_words.proofs.laws.one_cut.Goals as goal

pub returns-clause-longest : goal.returns-clause-longest
returns-clause-longest c = one_longest_holds
