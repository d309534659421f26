use Rattle.std.proofs.Common.{ap, sym}
use Rattle.opa_line.proofs.Zipping.{ok_weaker}
use Rattle.opa_value.specs.Fit.{fit_of}
use Rattle.opa_mean.specs.Meaning.{first_value}
use Rattle.opa_code.specs.OverLines.Lines.{values_at}
use Rattle.opa_code.proofs.Standing.{day_is, stands_same}
use Rattle.opa_code.proofs.derive.concluded_line.Goals as goal

pub returns-then-money : goal.returns-then-money
returns-then-money c = ok_weaker c.fitted_line.result _ _ (λ l h. stands_same l _ _ (λ d lt. ap (fit_of c.args.money) (day_is c.in_ok-first.first _ c.in_ok-first.ensures d lt)) h) c.fitted_line.ensures

pub returns : goal.returns
returns c = stands_same c.in_ok-first.first _ _ (λ d lt. ap (λ b. fit_of b (first_value (values_at c.args.operands.items d))) (sym c.if-money.false)) c.in_ok-first.ensures
