use Rattle.std.proofs.Common.{◌∙◌, ap}
use Rattle.opa_line.proofs.Zipping.{ok_weaker}
use Rattle.opa_text.specs.Points.{point_text}
use Rattle.opa_report.specs.Text.Texts.{heading}
use Rattle.opa_report.proofs.text.told.first_line.Goals as goal

pub returns : goal.returns
returns c = ok_weaker c.heading.result _ _ (λ t h. h ∙ ap (λ p. heading p c.in_ok-date.date) c.in_ok-point.ensures
    ∙ ap (heading (point_text c.args.phrase.now c.args.inst.now)) c.in_ok-date.ensures) c.heading.ensures
