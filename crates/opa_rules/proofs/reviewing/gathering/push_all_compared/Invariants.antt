use Rattle.std.proofs.Common.{◌≡◌, ◌++◌, take}
use Rattle.std.specs.Prelude.{flat_map}
use Rattle.opa_rules.specs.Reviewing.Compared.{compared_in}
use Rattle.opa_rules.proofs.reviewing.gathering.push_all_compared.Given as goal

abbrev pub invariant-loop-rule : goal.invariant-loop-rule
invariant-loop-rule l = l.findings ≡ l.initial.findings ++ flat_map (compared_in l.base) (take l.rule-index l.rules)
