use Rattle.std.proofs.Common.{length}
use Rattle.opa_io.proofs.same.+all_same.Given as goal

abbrev pub decreases-all_same : goal.decreases-all_same
decreases-all_same g l = length l.items.now
