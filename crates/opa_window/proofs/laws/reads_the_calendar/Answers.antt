use Rattle.opa_window.proofs.CalendarDays as law
use Rattle.opa_window.proofs.laws.reads_the_calendar.Goals as goal

pub returns : goal.returns
returns c = law.reads_the_calendar
