use Rattle.std.proofs.Common.{length, All, ◌<◌}
use Rattle.opa_tree.specs.declared.rules.Rule.{Rule}
use Rattle.opa_rulebase.proofs.RuledLaws.{AreRuledSoFar}
use Rattle.opa_rulebase.proofs.ruled.ruled_of.Given as goal

abbrev pub invariant-loop-rule : goal.invariant-loop-rule
invariant-loop-rule l = record {
  so_far : AreRuledSoFar l.count l.rules l.rest l.ruled.items;
  within : All (λ (r : Rule). r.attr.0 < l.count) l.rest;
}

abbrev pub decreases-loop-rule : goal.decreases-loop-rule
decreases-loop-rule l = length l.rest
