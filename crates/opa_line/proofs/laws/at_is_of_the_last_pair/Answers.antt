use Rattle.opa_line.proofs.LineLaws as law
use Rattle.opa_line.proofs.laws.at_is_of_the_last_pair.Goals as goal

pub returns : goal.returns
returns g c = law.at_is_of_the_last_pair g.row.T.Denot
