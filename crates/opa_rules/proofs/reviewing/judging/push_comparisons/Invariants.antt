use Rattle.std.proofs.Common.{◌≡◌, ◌++◌, take}
use Rattle.std.specs.Prelude.{flat_map}
use Rattle.opa_rules.specs.Reviewing.Compared.{of_comparison}
use Rattle.opa_rules.proofs.reviewing.judging.push_comparisons.Given as goal

abbrev pub invariant-loop-comparison : goal.invariant-loop-comparison
invariant-loop-comparison l = l.findings ≡ l.initial.findings ++ flat_map (of_comparison l.base l.rule) (take l.comparison-index l.comparisons)
