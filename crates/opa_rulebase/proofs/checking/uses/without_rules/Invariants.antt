use Rattle.std.proofs.Common.{◌≡◌, ◌<◌, ℕ, length}
use Rattle.std.specs.Prelude.{None, Some, slice_get}
use Rattle.opa_rulebase.proofs.checking.uses.without_rules.Given as goal

abbrev pub invariant-loop : goal.invariant-loop
invariant-loop l = (length l.uses.items ≡ l.counter) × ((n : ℕ) → n < l.counter → slice_get l.uses.items n ≡ Some None)
