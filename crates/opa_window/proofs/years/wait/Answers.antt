use Rattle.opa_window.proofs.Anniversaries.{years_begin}
use Rattle.opa_window.proofs.years.wait.Goals as goal

pub count_on-requires-clause-years : goal.count_on-requires-clause-years
count_on-requires-clause-years c = years_begin c.args.day c.requires.in_calendar
