-- Where each rank is found, and which is the first that isn't.
use Rattle.std.proofs.Common.{◌≡◌, ◌∙◌, ◌<◌, ◌≤◌, ℕ, zero, suc, arith, Bool, true, false, not, cond, List, [], ◌∷◌, length, map, refl, sym, ap, subst, get_or, nat_lt}
use Rattle.std.specs.Prelude.{Option, None, Some, is_some, unwrap_or, position, slice_get}
use Rattle.std.specs.List.{position_or_len}
use Rattle.std.proofs.lemmas.List.Quantifiers.{position-Some}
use Rattle.std.proofs.lemmas.Option.{slice_get-get_or, slice_get_within}
use Rattle.opa_model.specs.declared.ids.AttrId.{AttrId}
use Rattle.opa_tree.specs.declared.rules.Rule.{Rule}
use Rattle.opa_rulebase.specs.Checking.Circles.{IsTaken, IsLeastLeft}
use Rattle.opa_tree.specs.Laws.{AreDeclared}
use Rattle.opa_tree.specs.Ranks.{AreRanks}
use Rattle.std.proofs.lemmas.List.{length-map}
use Rattle.opa_rulebase.specs.Checking.Found.{or_zero, uses_by, found_by, AreUses, AreFound, AreAll}
use Rattle.opa_rulebase.specs.Checking.Settled.{AreSettled, IsOpen}
use Rattle.opa_rulebase.proofs.checking.CircleLaws.{open_left, known_taken, right_by, is_none, is_known}
use Rattle.opa_rulebase.proofs.checking.FoundLaws.{are_ranks}

all_known : (ranks : List (Option ℕ)) → length ranks ≤ position_or_len (λ r. not (is_some r)) ranks → map (λ (n : ℕ). Some n) (map (λ r. unwrap_or r 0) ranks) ≡ ranks
all_known [] le = refl
all_known (None ∷ ranks) le = absurd (omega (arith, le))
all_known (Some n ∷ ranks) le = ap (λ rs. Some n ∷ rs) (all_known ranks (omega (arith, le)))

pub all_found : (ranks : List (Option ℕ)) → position (λ r. not (is_some r)) ranks ≡ None → map (λ (n : ℕ). Some n) (map (λ r. unwrap_or r 0) ranks) ≡ ranks
all_found ranks none = here (nat_lt (position_or_len (λ r. not (is_some r)) ranks) (length ranks)) refl none
  where
    here : (t : Bool) → nat_lt (position_or_len (λ r. not (is_some r)) ranks) (length ranks) ≡ t → cond t (Some (position_or_len (λ r. not (is_some r)) ranks)) None ≡ None → map (λ (n : ℕ). Some n) (map (λ r. unwrap_or r 0) ranks) ≡ ranks
    here true e h = cc
    here false e h = let past : length ranks ≤ position_or_len (λ r. not (is_some r)) ranks = grind (arith, e) in all_known ranks past

pub open_at : (ranks : List (Option ℕ)) (a : AttrId) → position (λ r. not (is_some r)) ranks ≡ Some a.0 → IsOpen ranks a
open_at ranks a is =
    let w = position-Some (λ r. not (is_some r)) ranks a.0 None is in
    slice_get-get_or ranks a.0 None w.0 ∙ ap Some (is_none (get_or ranks a.0 None) w.1)

pub least_at : (rules : List Rule) (uses : List (Option (List AttrId))) (ranks : List (Option ℕ)) → AreSettled rules uses ranks → (a : AttrId) → position (λ r. not (is_some r)) ranks ≡ Some a.0 → IsLeastLeft rules a
least_at rules uses ranks settled a is = record {
  left = open_left rules uses ranks settled a (open_at ranks a is);
  others = λ b lt. earlier b lt;
}
  where
    earlier : (b : AttrId) → b.0 < a.0 → IsTaken rules b
    earlier b lt =
        let w = position-Some (λ r. not (is_some r)) ranks a.0 None is in
        let known = is_known (get_or ranks b.0 None) (w.2 b.0 lt) in
        known_taken rules uses ranks settled b known.0 (ap or_zero (slice_get-get_or ranks b.0 None (omega (arith, lt, w.0))) ∙ known.1)

-- settled ranks, by what each step gave
abbrev pub settled_by : (rules rs : List Rule) (uses us : List (Option (List AttrId))) (ranks : List (Option ℕ)) (n count taken : ℕ) → AreDeclared n rules → count ≡ n → rs ≡ rules → us ≡ uses
    → AreUses count rs uses → AreFound us ranks taken → AreAll us ranks → AreSettled rules uses ranks
settled_by rules rs uses us ranks n count taken declared count_is rules_are uses_are used found all = record {
  count = n;
  taken = taken;
  declared = declared;
  used = subst (λ (k : ℕ). AreUses k rules uses) count_is (subst (λ (q : List Rule). AreUses count q uses) rules_are used);
  found = subst (λ (u : List (Option (List AttrId))). AreFound u ranks taken) uses_are found;
  all = subst (λ (u : List (Option (List AttrId))). AreAll u ranks) uses_are all;
}

-- the ranks are those of the rules, where each is found
pub ranks_by : (rules : List Rule) (uses : List (Option (List AttrId))) (ranks : List (Option ℕ)) (settled : AreSettled rules uses ranks) → position (λ r. not (is_some r)) ranks ≡ None
    → AreRanks settled.count rules (map (λ r. unwrap_or r 0) ranks)
ranks_by rules uses ranks settled none =
    let values : List ℕ = map (λ r. unwrap_or r 0) ranks in let same = all_found ranks none in
    are_ranks settled.count rules values
    (length-map ranks (λ r. unwrap_or r 0) ∙ settled.found.for_each ∙ settled.used.for_each)
    (subst (λ (rs : List (Option ℕ)). (a : AttrId) (n : ℕ) → slice_get rs a.0 ≡ Some (Some n) → found_by rs (uses_by rules a) ≡ Some n) (sym same) (right_by rules uses ranks settled))
