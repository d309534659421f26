use Rattle.std.proofs.Common.{◌∙◌, ◌∷◌, [], ap, sym}
use Rattle.opa_code.proofs.constant.Constant.of.Goals as goal
use Rattle.opa_code.specs.Constants.{value_of}

pub invariant_of-result : goal.invariant_of-result
invariant_of-result c = c.in_ok-line.ensures.pair ∙ sym (ap (λ l. (0, value_of l) ∷ []) c.in_ok-line.ensures.pair)

pub returns : goal.returns
returns c = ap value_of c.in_ok-line.ensures.pair
