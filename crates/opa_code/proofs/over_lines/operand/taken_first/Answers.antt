use Rattle.std.proofs.Common.{sym, subst}
use Rattle.opa_date.specs.declared.TheConstants.{DAYS}
use Rattle.opa_line.specs.Lines.{StandsFor}
use Rattle.opa_line.proofs.Zipping.{ok_weaker}
use Rattle.opa_mean.specs.Meaning.{first_value}
use Rattle.opa_code.specs.OverLines.Lines.{values_at}
use Rattle.opa_code.proofs.over_lines.operand.taken_first.Goals as goal

pub returns-in-None : goal.returns-in-None
returns-in-None c = ok_weaker c.constant.result _ _ (λ l h. subst (λ ls. StandsFor DAYS (λ d. first_value (values_at ls d)) l) (sym c.in-None.ensures.0) h) c.constant.ensures.everywhere
