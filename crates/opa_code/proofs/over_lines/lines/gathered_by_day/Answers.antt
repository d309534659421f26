use Rattle.std.proofs.Common.{true, [], refl, arith}
use Rattle.opa_line.proofs.Zipping.{ok_weaker}
use Rattle.opa_code.specs.OverLines.Lines.{values_at}
use Rattle.opa_code.specs.OverLines.Tallies.{is_most}
use Rattle.opa_code.proofs.over_lines.Likeness.{alike_is}
use Rattle.opa_code.proofs.over_lines.Tallying.{sums_small}
use Rattle.opa_code.proofs.over_lines.lines.gathered_by_day.Goals as goal

pub swept_over-requires-clause-small : goal.swept_over-requires-clause-small
swept_over-requires-clause-small c = sums_small [] c.none-none.result.sums (omega arith) (c.none-none.ensures true).sums

pub returns-else-is_best : goal.returns-else-is_best
returns-else-is_best c =
    ok_weaker c.swept_over.result _ _ (λ line h. h (λ d. values_at c.args.operands.now d) record {
      others = [];
      tallied = c.none-none.ensures (is_most c.args.gathering);
      alike = λ d lt. alike_is (values_at c.args.operands.now d) (values_at c.args.operands.now d) refl;
    }) c.swept_over.ensures
