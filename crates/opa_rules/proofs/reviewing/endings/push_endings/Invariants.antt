use Rattle.std.proofs.Common.{◌≡◌, ◌++◌, take}
use Rattle.std.specs.Prelude.{flat_map}
use Rattle.opa_rules.specs.Reviewing.Endings.{ending_of}
use Rattle.opa_rules.proofs.reviewing.endings.push_endings.Given as goal

abbrev pub invariant-loop-rule : goal.invariant-loop-rule
invariant-loop-rule l = l.findings ≡ l.initial.findings ++ flat_map ending_of (take l.rule-index l.rules)
