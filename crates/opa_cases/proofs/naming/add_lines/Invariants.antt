use Rattle.std.proofs.Common.{◌≡◌, ◌++◌, length}
use Rattle.std.specs.Prelude.{flat_map}
use Rattle.opa_talk.specs.Lines.{lines}
use Rattle.opa_cases.proofs.naming.add_lines.Given as goal

abbrev pub invariant-loop-line : goal.invariant-loop-line
invariant-loop-line l = l.out.items ++ flat_map (λ x. l.front ++ x) (lines l.rest) ≡ l.initial.out.items ++ flat_map (λ x. l.front ++ x) (lines l.fn.text)

abbrev pub decreases-loop-line : goal.decreases-loop-line
decreases-loop-line l = length l.rest
