use Rattle.opa_words.specs.Pieces.{seen}
use Rattle.opa_text.proofs.Readings.{day_told}
use Rattle.opa_text.proofs.changes.first_day.Goals as goal

pub returns-clause-day : goal.returns-clause-day
returns-clause-day c = day_told seen (seen c.args.pieces) c.day_at.result c.day_at.ensures.value
