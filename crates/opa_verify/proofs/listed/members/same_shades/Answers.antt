use Rattle.std.proofs.Common.{rules, of_calls}
use Rattle.opa_date.specs.declared.TheConstants.{DAYS}
use Rattle.opa_line.proofs.Zipping.{ok_weaker, mapped_stands}
use Rattle.opa_verify.specs.declared.listed.shade.Shade.{Shade}
use Rattle.opa_verify.specs.Listed.Shades.{gone}
use Rattle.opa_verify.proofs.listed.members.same_shades.Goals as goal

pub returns : goal.returns
returns c = ok_weaker c.map.result _ _ (λ l h. mapped_stands _ _ (λ (x : Shade). x) gone DAYS c.args.x.now l (λ p z says. search (rules, of_calls, says)) h) c.map.ensures
