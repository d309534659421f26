use Rattle.std.proofs.Common.{take}
use Rattle.opa_batch.specs.Aims.{AreAimed}
use Rattle.opa_batch.proofs.aim.aims_of.Given as goal

-- the heads before have their aims
abbrev pub invariant-loop-place : goal.invariant-loop-place
invariant-loop-place l = AreAimed l.model (take l.place l.heads) l.aims.items
