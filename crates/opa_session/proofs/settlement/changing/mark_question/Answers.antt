use Rattle.std.specs.Option.{option_copied}
use Rattle.opa_mean.specs.Reached.Slots.{slots_in}
use Rattle.opa_session.proofs.settlement.Changed.{readers_one}
use Rattle.opa_session.proofs.settlement.changing.mark_question.Goals as goal

pub returns : goal.returns
returns g c = readers_one c.args.base.now (g.R.Reading.reading c.args.reading.now) c.args.question.now (slots_in (option_copied c.of.result)) c.of.ensures c.args.tasks.now c.mark_set.new.tasks c.in_ok-mark_set.ensures
