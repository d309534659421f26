use Rattle.std.proofs.Common.{◌∙◌, ◌++◌, ◌∷◌, [], ap}
use Rattle.std.proofs.lemmas.Result.{on_ok_weaker}
use Rattle.opa_code.proofs.carry.choose.Goals as goal

pub returns : goal.returns
returns c = on_ok_weaker c.add.result (λ added. record {
  below = c.newest-cond.new.operands.items;
  test = c.newest-cond.result;
  value = c.newest-value.result;
  rest = c.newest-rest.result;
  line = c.in_ok-operand.operand;
  is = c.newest-rest.ensures ∙ ap (λ ls. ls ++ c.newest-rest.result ∷ []) (c.newest-value.ensures ∙ ap (λ ls. ls ++ c.newest-value.result ∷ []) c.newest-cond.ensures);
  new_is = added;
  has = c.in_ok-operand.ensures;
}) c.add.ensures
