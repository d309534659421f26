use Rattle.opa_window.proofs.FoldLaws as law
use Rattle.opa_window.proofs.laws.longest_is_longest.Goals as goal

pub returns : goal.returns
returns c = law.longest_is_longest
