use Rattle.std.proofs.Common.{◌≡◌, ◌++◌}
use Rattle.opa_rules.specs.Reviewing.Alike.{placed, attributes_with}
use Rattle.opa_rules.proofs.reviewing.alike.push_attributes.Given as goal

abbrev pub invariant-loop-place : goal.invariant-loop-place
invariant-loop-place l = l.findings ≡ l.initial.findings ++ placed (attributes_with l.model) l.place
