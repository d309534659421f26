use Rattle.std.proofs.Common.{rules, of_calls}
use Rattle.opa_date.specs.declared.TheConstants.{DAYS}
use Rattle.opa_value.specs.declared.value.Value.TheVariants.{Unknown}
use Rattle.opa_line.proofs.Zipping.{ok_weaker, joined_stands}
use Rattle.opa_verify.specs.Listed.ShadeLines.{shade_from}
use Rattle.opa_verify.proofs.listed.joins.joined_line.Goals as goal

pub returns : goal.returns
returns c = ok_weaker c.zip.result _ _ (λ l h. joined_stands _ _ shade_from Unknown Unknown DAYS c.args.values.now c.args.gaps.now l (λ p q z says. search (rules, of_calls, says)) h) c.zip.ensures
