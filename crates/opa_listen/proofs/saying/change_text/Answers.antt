use Rattle.std.proofs.Common.{◌++◌, ap, ◌∙◌}
use Rattle.std.specs.Prelude.{codes}
use Rattle.opa_text.specs.Points.{point_text}
use Rattle.opa_listen.proofs.saying.change_text.Goals as goal

pub returns : goal.returns
returns c =
    c.from_string.ensures ∙ c.in_ok-text.ensures.ok ∙ ap (λ x. x ++ (codes " on " ++ c.as_str-2.result.now)) (c.as_str.ensures ∙ c.in_ok-point.ensures)
    ∙ ap (λ x. point_text c.args.change.now.phrase c.args.change.now.inst ++ (codes " on " ++ x)) (c.as_str-2.ensures ∙ c.in_ok-dated.ensures)
