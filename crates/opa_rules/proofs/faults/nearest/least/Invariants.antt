use Rattle.std.proofs.Common.{◌≡◌, drop}
use Rattle.opa_rules.specs.Faults.Nearest.{least}
use Rattle.opa_rules.proofs.faults.nearest.least.Given as goal

abbrev pub invariant-loop-phrase : goal.invariant-loop-phrase
invariant-loop-phrase l = least l.text l.least (drop l.phrase-index l.phrases) ≡ least l.text l.bound l.phrases
