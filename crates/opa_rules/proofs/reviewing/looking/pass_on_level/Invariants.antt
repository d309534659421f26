use Rattle.std.proofs.Common.{◌≡◌, ℕ, ◌+◌, [], take}
use Rattle.std.specs.Prelude.{All}
use Rattle.opa_tree.specs.Ranks.{rank_at}
use Rattle.opa_rules.specs.Reviewing.Marks.{AreSpread}
use Rattle.opa_rules.proofs.reviewing.looking.pass_on_level.Given as goal

-- what the attributes before pass on is marked
abbrev pub invariant-loop-attr : goal.invariant-loop-attr
invariant-loop-attr l = (n : ℕ) → All (λ a. rank_at l.base.ranks a + 1 ≡ n) l.level → AreSpread l.base n [] l.initial.marks.items → AreSpread l.base n (take l.attr-index l.level) l.marks.items
