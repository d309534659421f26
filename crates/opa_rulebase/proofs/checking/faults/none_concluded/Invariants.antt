use Rattle.std.proofs.Common.{◌≡◌, ◌<◌, ℕ, length, false}
use Rattle.std.specs.Prelude.{Some, slice_get}
use Rattle.opa_rulebase.proofs.checking.faults.none_concluded.Given as goal

abbrev pub invariant-loop : goal.invariant-loop
invariant-loop l = (length l.marks.items ≡ l.counter) × ((n : ℕ) → n < l.counter → slice_get l.marks.items n ≡ Some false)
