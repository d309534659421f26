use Rattle.opa_window.proofs.FoldLaws as law
use Rattle.opa_window.proofs.laws.greatest_is_greatest.Goals as goal

pub returns : goal.returns
returns c = law.greatest_is_greatest
