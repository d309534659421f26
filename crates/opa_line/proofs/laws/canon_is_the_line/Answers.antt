use Rattle.opa_line.proofs.LineLaws as law
use Rattle.opa_line.proofs.laws.canon_is_the_line.Goals as goal

pub returns : goal.returns
returns g c = law.canon_is_the_line g.row.T.Denot
