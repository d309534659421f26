use Rattle.std.proofs.Common.{◌+◌, ◌*◌, take}
use Rattle.opa_mean.specs.Given.{base_of, facts_of}
use Rattle.opa_mean.specs.Tables.{AreLines}
use Rattle.opa_mean.proofs.determine.+determining.Given as goal

abbrev pub decreases-determine : goal.decreases-determine
decreases-determine l = 3 * l.below

abbrev pub decreases-determine_all : goal.decreases-determine_all
decreases-determine_all l = 3 * l.below + 2

abbrev pub decreases-determine_one : goal.decreases-determine_one
decreases-determine_one l = 3 * l.below + 1

abbrev pub invariant-determine_all-loop-question : goal.invariant-determine_all-loop-question
invariant-determine_all-loop-question l = AreLines (base_of l.base) (facts_of l.case) l.below (take l.question-index l.asked) l.lines
