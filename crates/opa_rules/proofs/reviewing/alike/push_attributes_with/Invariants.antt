use Rattle.std.proofs.Common.{◌≡◌, ◌++◌}
use Rattle.opa_rules.specs.Reviewing.Alike.{placed, attributes_at}
use Rattle.opa_rules.proofs.reviewing.alike.push_attributes_with.Given as goal

abbrev pub invariant-loop-earlier : goal.invariant-loop-earlier
invariant-loop-earlier l = l.findings ≡ l.initial.findings ++ placed (attributes_at l.model l.place) l.earlier
