use Rattle.std.proofs.Common.{◌++◌, length}
use Rattle.opa_parse.specs.MemberRuns.{AreSame}
use Rattle.opa_parse.proofs.texts.Texts.add_all.Given as goal

abbrev pub invariant-loop-text : goal.invariant-loop-text
invariant-loop-text l = AreSame (l.self ++ l.rest) (l.fn.self ++ l.texts)

abbrev pub decreases-loop-text : goal.decreases-loop-text
decreases-loop-text l = length l.rest
