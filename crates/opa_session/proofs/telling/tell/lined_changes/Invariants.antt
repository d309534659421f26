use Rattle.std.proofs.Common.{take}
use Rattle.std.specs.List.{AllZip}
use Rattle.opa_mean.specs.Given.{base_of, facts_of}
use Rattle.opa_session.specs.Telling.Telling.{TellsOf, changes_among}
use Rattle.opa_session.proofs.telling.tell.lined_changes.Given as goal

abbrev pub invariant-loop-attr : goal.invariant-loop-attr
invariant-loop-attr g l =
    AllZip (TellsOf (g.K.Lined.rules l.new).model) (changes_among (base_of (g.K.Lined.rules l.new)) (facts_of (g.H.Lined.over l.old)) (facts_of (g.K.Lined.over l.new)) (take l.attr-index l.slots)) l.told.items
