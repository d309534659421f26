use Rattle.std.proofs.Common.{◌≡◌, ℕ, [], length, take}
use Rattle.std.specs.Prelude.{All}
use Rattle.opa_tree.specs.Ranks.{rank_at}
use Rattle.opa_rules.specs.Reviewing.Marks.{AreSettledUpTo}
use Rattle.opa_rules.proofs.reviewing.settling.settle_level.Given as goal

-- the attributes before are told
abbrev pub invariant-loop-attr : goal.invariant-loop-attr
invariant-loop-attr l = (length l.marks.items ≡ length l.base.model.attributes)
    × ((rank : ℕ) → All (λ a. rank_at l.base.ranks a ≡ rank) l.level → AreSettledUpTo l.base rank [] l.initial.marks.items → AreSettledUpTo l.base rank (take l.attr-index l.level) l.marks.items)
