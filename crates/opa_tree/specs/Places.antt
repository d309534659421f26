-- Where the rules of attributes stand.
use Rattle.std.specs.Prelude.{◌≡◌, ℕ, ◌<◌, List, length, Option, Some, slice_get}
use Rattle.std.specs.Option.{option_and_then}
use Rattle.opa_tree.specs.declared.rules.Rule.{Rule}
use Rattle.opa_tree.specs.Rules.{rule_of}

-- each of the first attributes has the place of its first rule, and no place where it has no rule
pub record ArePlaces (rules : List Rule) (places : List (Option ℕ)) : Type 0 where
  pub right : (n : ℕ) (o : Option ℕ) → slice_get places n ≡ Some o → option_and_then (slice_get rules) o ≡ rule_of rules (record { 0 = n })
  pub within : (n p : ℕ) → slice_get places n ≡ Some (Some p) → p < length rules
