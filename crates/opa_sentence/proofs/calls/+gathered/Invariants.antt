use Rattle.std.proofs.Common.{length}
use Rattle.opa_sentence.proofs.calls.+gathered.Given as goal

abbrev pub decreases-gathered : goal.decreases-gathered
decreases-gathered l = length l.lines
