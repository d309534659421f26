use Rattle.std.proofs.Common.{◌≡◌, map, take}
use Rattle.opa_report.proofs.day_sets.spans.spans_of.Given as goal

abbrev pub invariant-loop-pair : goal.invariant-loop-pair
invariant-loop-pair l = l.spans.items ≡ map (λ p. p.1) (take l.pair-index l.pairs)
