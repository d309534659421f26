use Rattle.std.proofs.Common.{◌∙◌, ap}
use Rattle.opa_date.specs.Texts.{day_text}
use Rattle.opa_line.proofs.Zipping.{ok_weaker}
use Rattle.opa_text.specs.Points.{point_text}
use Rattle.opa_verify.specs.Verdict.Telling.{says_supported}
use Rattle.opa_verify.proofs.verdict.telling.supported_line.Goals as goal

pub returns : goal.returns
returns c = ok_weaker c.joined.result _ _ (λ t h. h
    ∙ ap (λ p. says_supported p c.in_ok-date.date c.in_ok-said.said) c.in_ok-point.ensures
    ∙ ap (λ d. says_supported (point_text c.args.phrase.now c.args.inst.now) d c.in_ok-said.said) c.in_ok-date.ensures
    ∙ ap (says_supported (point_text c.args.phrase.now c.args.inst.now) (day_text c.args.day)) c.in_ok-said.ensures) c.joined.ensures
