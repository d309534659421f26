use Rattle.std.proofs.Common.{Option, is_some, ◌∙◌, ap, ap₂}
use Rattle.opa_date.specs.declared.TheConstants.{DAYS}
use Rattle.opa_case.specs.Cases.{Answer}
use Rattle.opa_mean.specs.Changes.{first_difference}
use Rattle.opa_mean.specs.Given.{line_value}
use Rattle.opa_session.proofs.telling.lines.answer_differs.Goals as goal

pub returns : goal.returns
returns c = c.is_some.ensures ∙ ap is_some (c.in_ok-day.ensures ∙ ap₂ (λ (x y : Option Answer). first_difference DAYS (line_value x) (line_value y)) c.answer_of-before.ensures.value c.answer_of-after.ensures.value)
