use Rattle.std.proofs.Common.{◌-◌, [], length}
use Rattle.opa_rules.specs.Reviewing.Marks.{AreSpread}
use Rattle.opa_rules.proofs.reviewing.looking.pass_on_all.Given as goal

-- the ranks from the highest down to here have passed on
abbrev pub invariant-loop-done : goal.invariant-loop-done
invariant-loop-done l = AreSpread l.base (length l.levels) [] l.initial.marks.items → AreSpread l.base (length l.levels - l.done) [] l.marks.items
