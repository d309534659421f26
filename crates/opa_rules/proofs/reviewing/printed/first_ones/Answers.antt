use Rattle.std.proofs.Common.{arith}
use Rattle.opa_rules.proofs.reviewing.RowLaws.{short_take, whole_take}
use Rattle.opa_rules.proofs.reviewing.printed.first_ones.Goals as goal

pub slice_bounds-result-end : goal.slice_bounds-result-end
slice_bounds-result-end c = let more = c.if-findings-gt-MOST_FINDINGS.true in short_take 100 c.args.findings.now (grind (arith, more))

pub returns-else-findings-gt-MOST_FINDINGS : goal.returns-else-findings-gt-MOST_FINDINGS
returns-else-findings-gt-MOST_FINDINGS c = let few = c.if-findings-gt-MOST_FINDINGS.false in whole_take 100 c.args.findings.now (grind (arith, few))
