use Rattle.std.proofs.Common.{◌≡◌, take}
use Rattle.std.specs.Prelude.{flat_map}
use Rattle.opa_rules.specs.Reviewing.Roundings.{used_by}
use Rattle.opa_rules.proofs.reviewing.roundings.used.Given as goal

abbrev pub invariant-loop-rule : goal.invariant-loop-rule
invariant-loop-rule l = l.attrs ≡ flat_map (used_by l.model) (take l.rule-index l.rules)
