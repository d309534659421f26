use Rattle.std.proofs.Common.{◌≡◌, ◌++◌}
use Rattle.std.specs.Prelude.{flat_map}
use Rattle.opa_tree.specs.Levels.{attributes}
use Rattle.opa_rules.specs.Reviewing.Looking.{unused_at}
use Rattle.opa_rules.proofs.reviewing.attributes.push_all_unseen.Given as goal

abbrev pub invariant-loop-number : goal.invariant-loop-number
invariant-loop-number l = l.findings ≡ l.initial.findings ++ flat_map (unused_at l.base) (attributes l.number)
