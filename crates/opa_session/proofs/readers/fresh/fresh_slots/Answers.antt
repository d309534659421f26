use Rattle.std.proofs.Common.{◌∙◌, ap}
use Rattle.opa_session.proofs.telling.Walked.{are_slots}
use Rattle.opa_session.specs.Readers.Renewing.{fresh_among}
use Rattle.opa_session.proofs.readers.fresh.fresh_slots.Goals as goal

pub fresh_of-requires-clause-slots : goal.fresh_of-requires-clause-slots
fresh_of-requires-clause-slots c = are_slots c.args.base.now c.args.new.now c.requires.after c.as_slice-slots.result.now (c.as_slice-slots.ensures ∙ c.in_ok-all.ensures)

pub returns : goal.returns
returns c = c.in_ok-found.ensures ∙ ap (fresh_among c.args.base.now c.args.old.now c.args.new.now) (c.as_slice-slots.ensures ∙ c.in_ok-all.ensures)
