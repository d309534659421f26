-- Places of rules, rule by rule.
use Rattle.std.proofs.Common.{◌≡◌, ◌≢◌, ◌∙◌, ◌<◌, ◌≤◌, ◌+◌, ℕ, zero, suc, arith, Bool, true, false, cond, List, [], ◌∷◌, ◌++◌, length, replicate, refl, sym, ap, subst}
use Rattle.std.specs.Prelude.{Option, None, Some, is_some, slice_get, slice_set, ◌==◌}
use Rattle.std.specs.Option.{option_and_then, option_or}
use Rattle.std.proofs.lemmas.Option.{slice_get_past}
use Rattle.std.proofs.lemmas.List.{length-append}
use Rattle.opa_tree.specs.declared.rules.Rule.{Rule}
use Rattle.opa_tree.specs.Places.{ArePlaces}
use Rattle.opa_tree.specs.Rules.{rule_of, concludes}
use Rattle.opa_tree.proofs.Setting.{set_same, set_other, kept_before, comes_behind, same_place, other_place, rule_after}

-- an item that there is
some_at : {X : Type 0} (xs : List X) (i : ℕ) → i < length xs → (x : X) × (slice_get xs i ≡ Some x)
some_at [] i lt = absurd (omega (arith, lt))
some_at (x ∷ xs) zero lt = (x, refl)
some_at (x ∷ xs) (suc i) lt = some_at xs i (omega (arith, lt))

none_at : {X : Type 0} (n i : ℕ) (x o : Option X) → slice_get (replicate n x) i ≡ Some o → o ≡ x
none_at zero i x o h = absurd (cc h)
none_at (suc n) zero x o h = cc h
none_at (suc n) (suc i) x o h = none_at n i x o h

-- without rules nothing has a place
pub none_placed : (n : ℕ) (places : List (Option ℕ)) → places ≡ replicate n None → ArePlaces [] places
none_placed n places e = record {
  right = λ i o at. ap (option_and_then (slice_get [])) (none_at n i None o (sym (ap (λ ps. slice_get ps i) e) ∙ at));
  within = λ i p at. let none : Some p ≡ None = none_at n i None (Some p) (sym (ap (λ ps. slice_get ps i) e) ∙ at) in absurd (cc none);
}

module _ (before : List Rule) (rule : Rule) (places : List (Option ℕ)) (are : ArePlaces before places) where
  abbrev after : List Rule
  after = before ++ rule ∷ []

  -- the place of an earlier rule
  earlier : (n p : ℕ) → slice_get places n ≡ Some (Some p) → slice_get after p ≡ rule_of after (record { 0 = n })
  earlier n p at =
      let there = some_at before p (are.within n p at) in
      let own : rule_of before (record { 0 = n }) ≡ Some there.0 = sym (are.right n (Some p) at) ∙ there.1 in
      kept_before before (rule ∷ []) p there.0 there.1
      ∙ sym (rule_after before rule (record { 0 = n }) (rule.attr.0 == n) refl ∙ ap (λ o. option_or o (cond (rule.attr.0 == n) (Some rule) None)) own)

  further : (n p : ℕ) → slice_get places n ≡ Some (Some p) → p < length after
  further n p at = let less = are.within n p at in let long : length after ≡ length before + 1 = length-append before (rule ∷ []) in omega (arith, less, long)

  -- an attribute that has no rule yet, and that the rule doesn't conclude
  still_none : (n : ℕ) → (rule.attr.0 == n) ≡ false → slice_get places n ≡ Some None → None ≡ rule_of after (record { 0 = n })
  still_none n other at = sym (rule_after before rule (record { 0 = n }) false other ∙ ap (λ o. option_or o None) (sym (are.right n None at)))

  -- a rule of an attribute that has one already, or of which nothing is said
  pub placed_again : slice_get places rule.attr.0 ≢ Some None → ArePlaces after places
  placed_again taken = record { right = λ n o at. go n o at (rule.attr.0 == n) refl; within = further }
    where
      go : (n : ℕ) (o : Option ℕ) → slice_get places n ≡ Some o → (t : Bool) → (rule.attr.0 == n) ≡ t → option_and_then (slice_get after) o ≡ rule_of after (record { 0 = n })
      go n (Some p) at t is = earlier n p at
      go n None at true is = absurd (taken (subst (λ (k : ℕ). slice_get places k ≡ Some None) (same_place rule.attr.0 n is) at))
      go n None at false is = still_none n is at

  abbrev new : List (Option ℕ)
  new = slice_set places rule.attr.0 (Some (length before))

  -- the first rule of an attribute
  pub placed_first : slice_get places rule.attr.0 ≡ Some None → rule.attr.0 < length places → ArePlaces after (slice_set places rule.attr.0 (Some (length before)))
  placed_first vacant lt = record { right = λ n o at. go n o (rule.attr.0 == n) refl at; within = λ n p at. near n p (rule.attr.0 == n) refl at }
    where
      itself : (n : ℕ) (o : Option ℕ) → n ≡ rule.attr.0 → slice_get new n ≡ Some o → o ≡ Some (length before)
      itself n o same at = let own : Some o ≡ Some (Some (length before)) = sym at ∙ ap (slice_get new) same ∙ set_same places rule.attr.0 (Some (length before)) lt in cc own

      others : (n : ℕ) (o : Option ℕ) → (rule.attr.0 == n) ≡ false → slice_get new n ≡ Some o → slice_get places n ≡ Some o
      others n o is at = sym (set_other places rule.attr.0 n (Some (length before)) (other_place rule.attr.0 n is)) ∙ at

      concluded : (n : ℕ) → (rule.attr.0 == n) ≡ true → rule_of after (record { 0 = n }) ≡ Some rule
      concluded n is =
          let none : rule_of before (record { 0 = n }) ≡ None = sym (are.right n None (subst (λ (k : ℕ). slice_get places k ≡ Some None) (sym (same_place rule.attr.0 n is)) vacant)) in
          rule_after before rule (record { 0 = n }) true is ∙ ap (λ o. option_or o (Some rule)) none

      other : (n : ℕ) (o : Option ℕ) → (rule.attr.0 == n) ≡ false → slice_get places n ≡ Some o → option_and_then (slice_get after) o ≡ rule_of after (record { 0 = n })
      other n (Some p) is at = earlier n p at
      other n None is at = still_none n is at

      go : (n : ℕ) (o : Option ℕ) (t : Bool) → (rule.attr.0 == n) ≡ t → slice_get new n ≡ Some o → option_and_then (slice_get after) o ≡ rule_of after (record { 0 = n })
      go n o true is at = ap (option_and_then (slice_get after)) (itself n o (same_place rule.attr.0 n is) at) ∙ comes_behind before rule ∙ sym (concluded n is)
      go n o false is at = other n o is (others n o is at)

      near : (n p : ℕ) (t : Bool) → (rule.attr.0 == n) ≡ t → slice_get new n ≡ Some (Some p) → p < length after
      near n p true is at =
          let same : Some p ≡ Some (length before) = itself n (Some p) (same_place rule.attr.0 n is) at in
          let own : p ≡ length before = cc same in
          let long : length after ≡ length before + 1 = length-append before (rule ∷ []) in
          omega (arith, own, long)
      near n p false is at = further n p (others n (Some p) is at)

  pub placed_known : (o : Option ℕ) → slice_get places rule.attr.0 ≡ Some o → is_some o ≡ true → ArePlaces after places
  placed_known None at some = absurd (cc some)
  placed_known (Some p) at some = placed_again (λ vacant. absurd (cc (at, vacant)))

  pub placed_past : length places ≤ rule.attr.0 → ArePlaces after places
  placed_past past = placed_again (λ at. let none = slice_get_past places rule.attr.0 past in absurd (cc (none, at)))
