use Rattle.std.proofs.Common.{ap}
use Rattle.opa_line.proofs.Zipping.{ok_weaker}
use Rattle.opa_value.specs.Truth.{not_of}
use Rattle.opa_code.proofs.Standing.{stands_same}
use Rattle.opa_code.proofs.carry.not_sole.Goals as goal

pub returns : goal.returns
returns c = ok_weaker c.not_line.result _ _ (λ l h enclosing. stands_same l _ _ (λ d lt. ap not_of (c.sole_line.ensures enclosing d lt)) h) c.not_line.ensures
