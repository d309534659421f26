use Rattle.std.proofs.Common.{◌≡◌, [], length}
use Rattle.opa_mean.specs.Given.{base_of}
use Rattle.opa_mean.specs.Goals.Tables.{AreFreesUpTo}
use Rattle.opa_mean.proofs.goals.ranks.free_table.Given as goal

-- the ranks before are told
abbrev pub invariant-loop-level : goal.invariant-loop-level
invariant-loop-level l = (length l.free.items ≡ length l.base.model.attributes) × AreFreesUpTo (base_of l.base) l.level-index [] l.free.items
