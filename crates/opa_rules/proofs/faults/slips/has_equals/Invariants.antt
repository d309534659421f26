use Rattle.std.proofs.Common.{◌≡◌, length}
use Rattle.std.specs.List.{list_any}
use Rattle.opa_sentence.specs.Cursors.{seen}
use Rattle.opa_rules.specs.Faults.Signs.{is_equals}
use Rattle.opa_rules.proofs.faults.slips.has_equals.Given as goal

abbrev pub invariant-loop-class : goal.invariant-loop-class
invariant-loop-class l = list_any (λ t. is_equals t.class) (seen l.rest) ≡ list_any (λ t. is_equals t.class) (seen l.words)

abbrev pub decreases-loop-class : goal.decreases-loop-class
decreases-loop-class l = length (seen l.rest)
