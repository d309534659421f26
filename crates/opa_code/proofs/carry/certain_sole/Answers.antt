use Rattle.std.proofs.Common.{ap}
use Rattle.opa_line.proofs.Zipping.{ok_weaker}
use Rattle.opa_mean.specs.Meaning.{certain_of}
use Rattle.opa_code.proofs.Standing.{stands_same}
use Rattle.opa_code.proofs.carry.certain_sole.Goals as goal

pub returns : goal.returns
returns c = ok_weaker c.certain_line.result _ _ (λ l h enclosing. stands_same l _ _ (λ d lt. ap certain_of (c.sole_line.ensures enclosing d lt)) h) c.certain_line.ensures
