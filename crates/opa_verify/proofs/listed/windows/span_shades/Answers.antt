use Rattle.opa_line.proofs.Zipping.{ok_weaker}
use Rattle.opa_mean.specs.Spans.{span_fold}
use Rattle.opa_verify.proofs.listed.WindowLaws.{span_stands}
use Rattle.opa_verify.proofs.listed.windows.span_shades.Goals as goal

pub returns : goal.returns
returns c =
    ok_weaker c.joined_line.result _ _ (λ l h span. span_stands (span_fold c.args.kind) c.args.start.now c.args.end.now c.args.x.now c.in_ok-first.first c.in_ok-last.last c.in_ok-part_line.field-0 c.in_ok-part_line-3.field-0 c.in_ok-part_line-4.field-0 c.in_ok-part_line-2.field-0
    c.in_ok-values.values c.in_ok-within.within c.in_ok-dates.dates c.in_ok-gaps.gaps l
    c.in_ok-first.ensures c.in_ok-last.ensures c.in_ok-part_line.ensures c.in_ok-part_line-3.ensures c.in_ok-part_line-4.ensures c.in_ok-part_line-2.ensures (c.in_ok-values.ensures span) c.in_ok-within.ensures c.in_ok-dates.ensures c.in_ok-gaps.ensures h) c.joined_line.ensures
