use Rattle.std.proofs.Common.{◌≡◌, ◌++◌, ℕ, map, length}
use Rattle.std.specs.List.{AllByRecursion}
use Rattle.opa_value.specs.declared.value.Value.{Value}
use Rattle.serde_json.specs.View.{view}
use Rattle.opa_saved.specs.Saved.{pair_data}
use Rattle.opa_saved.specs.RoundTrip.{IsValue}
use Rattle.opa_saved.specs.Told.{AreOfCalendar}
use Rattle.opa_saved.proofs.values.pairs_json.Given as goal

abbrev pub invariant-loop-pair : goal.invariant-loop-pair
invariant-loop-pair l = record {
  done : map view l.items.items ++ map pair_data l.rest ≡ map pair_data l.fn.pairs;
  days : AreOfCalendar l.rest;
  range : AllByRecursion (λ (p : ℕ × Value). IsValue p.1) l.rest → AllByRecursion (λ (p : ℕ × Value). IsValue p.1) l.fn.pairs;
}

abbrev pub decreases-loop-pair : goal.decreases-loop-pair
decreases-loop-pair l = length l.rest
