use Rattle.std.proofs.Common.{◌≡◌, ◌<◌, ℕ, length}
use Rattle.std.specs.Prelude.{None, Some, slice_get}
use Rattle.opa_rulebase.proofs.checking.ranks.Ranking.none.Given as goal

abbrev pub invariant-loop : goal.invariant-loop
invariant-loop l = (length l.ranks.items ≡ l.counter) × ((n : ℕ) → n < l.counter → slice_get l.ranks.items n ≡ Some None)
