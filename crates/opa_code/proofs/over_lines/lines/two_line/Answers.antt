use Rattle.std.proofs.Common.{rules, of_calls, ◌∷◌, []}
use Rattle.opa_date.specs.declared.TheConstants.{DAYS}
use Rattle.opa_value.specs.Truth.{strict}
use Rattle.opa_value.specs.declared.value.Value.TheVariants.{Unknown}
use Rattle.opa_line.proofs.Zipping.{ok_weaker, joined_stands}
use Rattle.opa_mean.specs.Operations.{op_of}
use Rattle.opa_code.proofs.over_lines.lines.two_line.Goals as goal

pub returns : goal.returns
returns c = ok_weaker c.zip.result _ _ (λ l h. joined_stands _ _ (λ v w. strict (op_of c.args.kind) (v ∷ w ∷ [])) Unknown Unknown DAYS c.args.x.now c.args.y.now l (λ p q z says. search (rules, of_calls, says)) h) c.zip.ensures
