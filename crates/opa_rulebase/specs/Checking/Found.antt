-- Ranks that are found so far, attribute by attribute.
use Rattle.std.specs.Prelude.{ℕ, ◌≡◌, ◌≤◌, ◌<◌, ◌+◌, max, List, [], ◌∷◌, length, map, Option, None, Some, slice_get, Contains}
use Rattle.std.specs.Option.{option_map}
use Rattle.opa_model.specs.declared.ids.AttrId.{AttrId}
use Rattle.opa_tree.specs.declared.rules.Rule.{Rule}
use Rattle.opa_tree.specs.Mentions.{mentions}
use Rattle.opa_tree.specs.Rules.{rule_of}

-- what the rule of an attribute mentions, if it has one
abbrev pub uses_by : List Rule → AttrId → Option (List AttrId)
uses_by rules a = option_map (λ r. mentions r.expr) (rule_of rules a)

-- what the rule of each of so many attributes mentions
pub record AreUses (count : ℕ) (rules : List Rule) (uses : List (Option (List AttrId))) : Type 0 where
  pub for_each : length uses ≡ count
  pub by_rules : (a : AttrId) → a.0 < count → slice_get uses a.0 ≡ Some (uses_by rules a)

-- an attribute that isn't declared has no rule, and so rank 0
abbrev pub or_zero : Option (Option ℕ) → Option ℕ
or_zero None = Some 0
or_zero (Some rank) = rank

abbrev pub rank_found : List (Option ℕ) → AttrId → Option ℕ
rank_found ranks a = or_zero (slice_get ranks a.0)

-- the higher of two ranks, where both are found
abbrev pub higher : Option ℕ → Option ℕ → Option ℕ
higher None y = None
higher (Some m) None = None
higher (Some m) (Some n) = Some (max m n)

-- the highest of several ranks, where all are found; 0 where there are none
abbrev pub highest_found : List (Option ℕ) → Option ℕ
highest_found [] = Some 0
highest_found (x ∷ xs) = higher x (highest_found xs)

-- the rank that an attribute has by those that its rule mentions, where they are found
abbrev pub found_by : List (Option ℕ) → Option (List AttrId) → Option ℕ
found_by ranks None = Some 0
found_by ranks (Some mentioned) = option_map (λ n. 1 + n) (highest_found (map (rank_found ranks) mentioned))

-- how many ranks are found
abbrev pub found_count : List (Option ℕ) → ℕ
found_count [] = 0
found_count (None ∷ ranks) = found_count ranks
found_count (Some n ∷ ranks) = 1 + found_count ranks

-- Each rank that is found is the one that an attribute has by what its rule mentions, and none is above the number of those
-- that are found.
pub record AreFound (uses : List (Option (List AttrId))) (ranks : List (Option ℕ)) (taken : ℕ) : Type 0 where
  pub for_each : length ranks ≡ length uses
  pub counted : found_count ranks ≡ taken
  pub right : (a : AttrId) (n : ℕ) (u : Option (List AttrId)) → slice_get ranks a.0 ≡ Some (Some n) → slice_get uses a.0 ≡ Some u → found_by ranks u ≡ Some n
  pub low : (a : AttrId) (n : ℕ) → slice_get ranks a.0 ≡ Some (Some n) → n ≤ taken

-- no rank of the attribute can be found
abbrev pub IsDone : List (Option (List AttrId)) → List (Option ℕ) → AttrId → Type 0
IsDone uses ranks a = (u : Option (List AttrId)) → slice_get ranks a.0 ≡ Some None → slice_get uses a.0 ≡ Some u → found_by ranks u ≡ None

-- no more ranks can be found
abbrev pub AreAll : List (Option (List AttrId)) → List (Option ℕ) → Type 0
AreAll uses ranks = (a : AttrId) → IsDone uses ranks a
