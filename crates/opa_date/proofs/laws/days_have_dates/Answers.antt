use Rattle.opa_date.proofs.CalendarLaws as laws
use Rattle.opa_date.proofs.laws.days_have_dates.Goals as goal

pub returns : goal.returns
returns c = laws.days_have_dates
