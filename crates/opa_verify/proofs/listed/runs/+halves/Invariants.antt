use Rattle.std.proofs.Common.{length}
use Rattle.opa_verify.proofs.listed.runs.+halves.Given as goal

abbrev pub decreases-listed_line : goal.decreases-listed_line
decreases-listed_line l = length l.runs.now
