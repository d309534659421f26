use Rattle.opa_line.proofs.LineLaws as law
use Rattle.opa_line.proofs.laws.equal_where_values_are.Goals as goal

pub returns : goal.returns
returns g c = law.equal_where_values_are g.row.T.Denot
