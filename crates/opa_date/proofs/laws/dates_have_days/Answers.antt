use Rattle.opa_date.proofs.CalendarLaws as laws
use Rattle.opa_date.proofs.laws.dates_have_days.Goals as goal

pub returns : goal.returns
returns c = laws.dates_have_days
