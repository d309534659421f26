use Rattle.std.proofs.Common.{◌≡◌, ◌++◌, length}
use Rattle.opa_report.specs.DaySets.Spans.{back_spans}
use Rattle.opa_report.proofs.day_sets.spans.back_spans.Given as goal

abbrev pub invariant-loop-pair : goal.invariant-loop-pair
invariant-loop-pair l = l.spans.items ++ back_spans l.count l.rest ≡ back_spans l.count l.pairs

abbrev pub decreases-loop-pair : goal.decreases-loop-pair
decreases-loop-pair l = length l.rest
