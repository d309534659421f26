use Rattle.std.proofs.Common.{◌≡◌, take}
use Rattle.std.specs.Prelude.{flat_map}
use Rattle.opa_rules.specs.Reviewing.Rows.{of_rule}
use Rattle.opa_rules.proofs.reviewing.gathering.unreached_rows.Given as goal

abbrev pub invariant-loop-rule : goal.invariant-loop-rule
invariant-loop-rule l = l.findings ≡ flat_map of_rule (take l.rule-index l.rules)
