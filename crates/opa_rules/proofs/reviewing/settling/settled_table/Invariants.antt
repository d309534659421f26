use Rattle.std.proofs.Common.{◌≡◌, [], length}
use Rattle.opa_rules.specs.Reviewing.Marks.{AreSettledUpTo}
use Rattle.opa_rules.proofs.reviewing.settling.settled_table.Given as goal

-- the ranks before are told
abbrev pub invariant-loop-level : goal.invariant-loop-level
invariant-loop-level l = (length l.marks.items ≡ length l.base.model.attributes) × AreSettledUpTo l.base l.level-index [] l.marks.items
