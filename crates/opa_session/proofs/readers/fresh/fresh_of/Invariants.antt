use Rattle.std.proofs.Common.{◌≡◌, take}
use Rattle.opa_mean.specs.Reached.Slots.{pairs_of}
use Rattle.opa_session.specs.Readers.Renewing.{fresh_among}
use Rattle.opa_session.proofs.readers.fresh.fresh_of.Given as goal

abbrev pub invariant-loop-attr : goal.invariant-loop-attr
invariant-loop-attr l = pairs_of l.found ≡ fresh_among l.base l.old l.new (take l.attr-index l.slots)
