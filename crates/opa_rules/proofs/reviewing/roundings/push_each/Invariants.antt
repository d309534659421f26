use Rattle.std.proofs.Common.{◌≡◌, ◌++◌, take}
use Rattle.std.specs.Prelude.{flat_map}
use Rattle.opa_rules.specs.Reviewing.Roundings.{rounding_of}
use Rattle.opa_rules.proofs.reviewing.roundings.push_each.Given as goal

abbrev pub invariant-loop-rule : goal.invariant-loop-rule
invariant-loop-rule l = l.findings ≡ l.initial.findings ++ flat_map (rounding_of l.model l.attrs) (take l.rule-index l.rules)
