use Rattle.std.proofs.Common.{length, Option}
use Rattle.opa_parse.specs.Fronts.{AreShort}
use Rattle.opa_rules.specs.declared.faults.marks.Told.{Told}
use Rattle.opa_rules.specs.Faults.Unread.{AreLinesTold}
use Rattle.opa_rules.proofs.faults.unread.lines_told.Given as goal

abbrev pub invariant-loop-line : goal.invariant-loop-line
invariant-loop-line l = record {
  short : AreShort l.rest;
  back : (o : Option Told) → AreLinesTold l.below l.rest o → AreLinesTold l.below l.lines o;
}

abbrev pub decreases-loop-line : goal.decreases-loop-line
decreases-loop-line l = length l.rest
