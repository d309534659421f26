use Rattle.opa_date.proofs.Anniversaries as laws
use Rattle.opa_date.proofs.laws.years_are_added.Goals as goal

pub returns : goal.returns
returns c = laws.years_are_added
