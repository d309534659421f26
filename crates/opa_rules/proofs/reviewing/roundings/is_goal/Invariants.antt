use Rattle.std.proofs.Common.{◌≡◌, take}
use Rattle.std.specs.List.{list_any}
use Rattle.opa_tree.specs.Mentions.{is_attr}
use Rattle.opa_rules.proofs.reviewing.roundings.is_goal.Given as goal

abbrev pub invariant-loop-n : goal.invariant-loop-n
invariant-loop-n l = l.found ≡ list_any (is_attr l.attr) (take l.n l.model.goals)
