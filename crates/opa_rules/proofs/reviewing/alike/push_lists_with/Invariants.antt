use Rattle.std.proofs.Common.{◌≡◌, ◌++◌}
use Rattle.opa_rules.specs.Reviewing.Alike.{placed, lists_at}
use Rattle.opa_rules.proofs.reviewing.alike.push_lists_with.Given as goal

abbrev pub invariant-loop-earlier : goal.invariant-loop-earlier
invariant-loop-earlier l = l.findings ≡ l.initial.findings ++ placed (lists_at l.model l.place) l.earlier
