use Rattle.std.proofs.Common.{◌≡◌, replicate, false}
use Rattle.opa_rulebase.proofs.ruled.without_rules.Given as goal

abbrev pub invariant-loop : goal.invariant-loop
invariant-loop l = l.ruled.items ≡ replicate l.counter false
