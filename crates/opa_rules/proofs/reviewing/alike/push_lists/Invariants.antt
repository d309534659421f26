use Rattle.std.proofs.Common.{◌≡◌, ◌++◌}
use Rattle.opa_rules.specs.Reviewing.Alike.{placed, lists_with}
use Rattle.opa_rules.proofs.reviewing.alike.push_lists.Given as goal

abbrev pub invariant-loop-place : goal.invariant-loop-place
invariant-loop-place l = l.findings ≡ l.initial.findings ++ placed (lists_with l.model) l.place
