use Rattle.std.proofs.Common.{◌≡◌, ℕ, [], length, take}
use Rattle.std.specs.Prelude.{All}
use Rattle.opa_tree.specs.Ranks.{rank_at}
use Rattle.opa_mean.specs.Given.{base_of}
use Rattle.opa_mean.specs.Goals.Tables.{AreFreesUpTo}
use Rattle.opa_mean.proofs.goals.ranks.settle_level.Given as goal

-- the attributes before are told
abbrev pub invariant-loop-attr : goal.invariant-loop-attr
invariant-loop-attr l = (length l.free.items ≡ length l.base.model.attributes)
    × ((rank : ℕ) → All (λ a. rank_at l.base.ranks a ≡ rank) l.level → AreFreesUpTo (base_of l.base) rank [] l.initial.free.items → AreFreesUpTo (base_of l.base) rank (take l.attr-index l.level) l.free.items)
