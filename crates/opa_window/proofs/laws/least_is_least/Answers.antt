use Rattle.opa_window.proofs.FoldLaws as law
use Rattle.opa_window.proofs.laws.least_is_least.Goals as goal

pub returns : goal.returns
returns c = law.least_is_least
