use Rattle.std.proofs.Common.{◌∙◌, ap}
use Rattle.opa_line.proofs.Zipping.{ok_weaker}
use Rattle.opa_text.specs.Points.{point_text}
use Rattle.opa_report.specs.Text.Texts.{placed_text, span_text, with_number}
use Rattle.opa_report.proofs.text.told.point_line.Goals as goal

pub returns : goal.returns
returns c = ok_weaker c.with_number.result _ _ (λ t h. h ∙ ap (with_number c.args.number) (c.in_ok-placed.ensures
    ∙ ap (λ p. placed_text p c.in_ok-span.span c.in_ok-told.told) c.in_ok-point.ensures
    ∙ ap (λ s. placed_text (point_text c.args.phrase.now c.args.inst.now) s c.in_ok-told.told) c.in_ok-span.ensures
    ∙ ap (placed_text (point_text c.args.phrase.now c.args.inst.now) (span_text c.args.first c.args.last)) c.in_ok-told.ensures)) c.with_number.ensures
