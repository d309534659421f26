use Rattle.opa_date.proofs.CalendarLaws as laws
use Rattle.opa_date.proofs.laws.agrees_with_jiff.Goals as goal

pub returns : goal.returns
returns c = laws.agrees_with_jiff
