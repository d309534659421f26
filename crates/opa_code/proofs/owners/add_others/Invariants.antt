use Rattle.std.proofs.Common.{take}
use Rattle.opa_code.specs.Mentions.{AddsOthers}
use Rattle.opa_code.proofs.owners.add_others.Given as goal

abbrev pub invariant-loop-owner : goal.invariant-loop-owner
invariant-loop-owner l = AddsOthers l.target (take l.owner-index l.inner) l.initial.owners l.owners
