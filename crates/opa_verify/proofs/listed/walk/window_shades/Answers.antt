use Rattle.std.proofs.Common.{sym, ◌∙◌}
use Rattle.opa_line.proofs.Zipping.{ok_weaker}
use Rattle.opa_verify.proofs.listed.WindowKinds.{three_are, span_window}
use Rattle.opa_verify.proofs.listed.walk.window_shades.Goals as goal

pub returns-then-has_span : goal.returns-then-has_span
returns-then-has_span c =
    let is = sym c.has_span.ensures ∙ c.if-has_span.true in
    ok_weaker c.span_shades.result _ _ (λ l h. span_window c.args.kind is c.args.lines.now c.start-item.result c.end-item.result c.x-item-then-lines-lt4.result l
    (three_are c.args.lines.now _ _ _ c.in-len3.len_at_least c.in-len3.len_below c.start-item.is c.end-item.is c.x-item-then-lines-lt4.is) (h is)) c.span_shades.ensures
