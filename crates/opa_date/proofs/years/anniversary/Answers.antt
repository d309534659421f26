use Rattle.std.proofs.Common.{rules}
use Rattle.opa_date.specs.Moves.{years_later}
use Rattle.opa_date.proofs.years.anniversary.Goals as goal

pub returns : goal.returns
unfolding years_later
returns c = search rules
