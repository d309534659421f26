use Rattle.std.proofs.Common.{◌∙◌}
use Rattle.opa_mean.proofs.SlotsAre.{slots_are_live}
use Rattle.opa_session.proofs.telling.Walked.{are_slots}
use Rattle.opa_session.specs.Readers.Indexes.{readers_in}
use Rattle.opa_session.proofs.readers.Indexed.{readers_are}
use Rattle.opa_session.proofs.readers.index.Index.of.Goals as goal

pub among-requires-clause-slots : goal.among-requires-clause-slots
among-requires-clause-slots c = are_slots c.args.base.now c.args.case.now c.requires c.as_slice-slots.result.now (c.as_slice-slots.ensures ∙ c.in_ok-all.ensures)

pub returns : goal.returns
returns c = readers_are c.args.base.now c.args.case.now slots_are_live c.requires c.as_slice-slots.result.now (c.as_slice-slots.ensures ∙ c.in_ok-all.ensures) (readers_in c.in_ok-index.index) c.in_ok-index.ensures
