use Rattle.std.proofs.Common.{◌∙◌}
use Rattle.opa_verify.proofs.spelling.Oks.{isnt}
use Rattle.opa_verify.proofs.spelling.Placed.{no_origin}
use Rattle.opa_verify.proofs.spelling.origins.origin_in.Goals as goal

pub returns-in-None : goal.returns-in-None
returns-in-None c = no_origin c.args.text.now (isnt c.is_same.result c.is_same.ensures c.if-is_same.false) (isnt c.is_same-2.result c.is_same-2.ensures c.if-is_same-2.false) (λ r e. c.in-None.ensures r (c.as_bytes.ensures.value ∙ e))
