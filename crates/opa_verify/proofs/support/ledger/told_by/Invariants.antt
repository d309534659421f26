use Rattle.std.proofs.Common.{take}
use Rattle.opa_verify.specs.Support.Ledgers.{Holds}
use Rattle.opa_verify.proofs.support.ledger.told_by.Given as goal

-- what was gone over is kept
abbrev pub invariant-loop-line : goal.invariant-loop-line
invariant-loop-line l = Holds l.told (take l.line-index l.lines)
