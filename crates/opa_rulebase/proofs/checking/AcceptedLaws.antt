-- Accepted rules aren't refused.
use Rattle.std.proofs.Common.{◌≡◌, ◌≢◌, ◌∙◌, ◌+◌, ◌<◌, ◌&&◌, ℕ, zero, suc, arith, Bool, true, false, cond, List, [], ◌∷◌, ◌++◌, length, map, refl, sym, ap, ap₂, subst, All, AllPairs, get_or}
use Rattle.std.specs.Prelude.{Option, None, Some, is_some, flat_map, slice_get, slice_index_or, ◌==◌, IsTrue}
use Rattle.std.specs.Option.{option_map, option_or}
use Rattle.std.proofs.lemmas.Bool.{false≢true, and_from}
use Rattle.std.proofs.lemmas.List.{length-map}
use Rattle.std.proofs.lemmas.List.Elements.{All-nil, All-cons, All-head, All-tail}
use Rattle.std.proofs.lemmas.Option.{slice_get_within}
use Rattle.opa_model.specs.declared.ids.AttrId.{AttrId}
use Rattle.opa_model.specs.declared.lists.Lists.{Lists}
use Rattle.opa_tree.specs.declared.faults.RbFault.{RbFault}
use Rattle.opa_tree.specs.declared.rules.Rule.{Rule}
use Rattle.opa_tree.specs.Accepted.{AreSound, AreAccepted, concludes_bool}
use Rattle.opa_tree.specs.FirstFaults.{first_fault}
use Rattle.opa_tree.specs.Kinds.{rule_has_kind}
use Rattle.opa_tree.specs.Laws.{AreDeclared}
use Rattle.opa_tree.specs.Mentions.{mentions}
use Rattle.opa_tree.specs.Ranks.{rank_at, rank_by, AreRanks}
use Rattle.opa_tree.specs.Rules.{rule_of, concludes}
use Rattle.opa_tree.specs.Scopes.{rule_is_reached}
use Rattle.opa_rulebase.specs.Checking.Circles.{stays, IsTaken, IsLeft, HasCircle}
use Rattle.opa_tree.specs.declared.faults.RbKind.TheVariants.{Scope, Kind, Twice}
use Rattle.opa_rulebase.specs.Checking.Faults.{fault_at, own_faults, second_faults, rule_faults, unless, when}
use Rattle.opa_rulebase.specs.Checking.Found.{uses_by, rank_found, found_by}
use Rattle.opa_rulebase.specs.Checking.Laws.{AcceptedAreNotRefused}
use Rattle.opa_rulebase.specs.Checking.Refused.{IsRefused, IsRefusedBy}
use Rattle.opa_rulebase.proofs.checking.FoundLaws.{is_taken, highest_is, complete_at, within_at}
use Rattle.opa_tree.proofs.Setting.{rule_after}

no_own : (m : Lists) (rules : List Rule) → All (λ r. IsTrue (rule_is_reached m r)) rules → All (λ r. IsTrue (rule_has_kind m r)) rules → All (λ r. IsTrue (concludes_bool m r)) rules → flat_map (own_faults m) rules ≡ []
no_own m [] a b c = refl
no_own m (r ∷ rules) a b c =
    ap (λ (t : Bool). (unless t (fault_at Scope r) ++ unless (rule_has_kind m r && concludes_bool m r) (fault_at Kind r)) ++ flat_map (own_faults m) rules) (All-head (λ r. IsTrue (rule_is_reached m r)) r rules a)
    ∙ ap (λ (t : Bool). unless t (fault_at Kind r) ++ flat_map (own_faults m) rules) (and_from (rule_has_kind m r) (concludes_bool m r) (All-head (λ r. IsTrue (rule_has_kind m r)) r rules b) (All-head (λ r. IsTrue (concludes_bool m r)) r rules c))
    ∙ no_own m rules (All-tail (λ r. IsTrue (rule_is_reached m r)) r rules a) (All-tail (λ r. IsTrue (rule_has_kind m r)) r rules b) (All-tail (λ r. IsTrue (concludes_bool m r)) r rules c)

abbrev IsFree : List Rule → Rule → Type 0
IsFree before r = is_some (rule_of before r.attr) ≡ false

apart : (before : List Rule) (rule r : Rule) → IsFree before r → rule.attr ≢ r.attr → IsFree (before ++ rule ∷ []) r
apart before rule r free differ = ap (λ o. is_some o) (rule_after before rule r.attr (concludes r.attr rule) refl) ∙ here (concludes r.attr rule) refl (rule_of before r.attr) free
  where
    same_id : (m n : ℕ) → (m == n) ≡ true → m ≡ n
    same_id m n e = grind (arith, e)

    here : (t : Bool) → concludes r.attr rule ≡ t → (o : Option Rule) → is_some o ≡ false → is_some (option_or o (cond t (Some rule) None)) ≡ false
    here true e o f = absurd (differ (ap (λ (n : ℕ). let x : AttrId = record { 0 = n } in x) (same_id rule.attr.0 r.attr.0 e)))
    here false e None f = refl
    here false e (Some q) f = f

still_free : (before : List Rule) (rule : Rule) (rules : List Rule) → All (IsFree before) rules → ((k : ℕ) (d : Rule) → k < length rules → rule.attr ≢ (get_or rules k d).attr) → All (IsFree (before ++ rule ∷ [])) rules
still_free before rule rules free differ = λ k d lt. apart before rule (get_or rules k d) (free k d lt) (differ k d lt)

no_second : (before rules : List Rule) → All (IsFree before) rules → AllPairs (λ r s. r.attr ≢ s.attr) rules → second_faults before rules ≡ []
no_second before [] free differ = refl
no_second before (rule ∷ rules) free differ =
    ap (λ (t : Bool). when t (fault_at Twice rule) ++ second_faults (before ++ rule ∷ []) rules) (All-head (IsFree before) rule rules free)
    ∙ no_second (before ++ rule ∷ []) rules
    (still_free before rule rules (All-tail (IsFree before) rule rules free) (λ k d lt. differ 0 (suc k) d (omega arith) (omega (arith, lt))))
    (λ i j d lt within. differ (suc i) (suc j) d (omega (arith, lt)) (omega (arith, within)))

none_concluded : (rules : List Rule) → All (IsFree []) rules
none_concluded [] = All-nil (IsFree [])
none_concluded (r ∷ rules) = All-cons (IsFree []) r rules refl (none_concluded rules)

pub no_faults : (m : Lists) (rules : List Rule) → AreSound m rules → rule_faults m rules ≡ []
no_faults m rules sound = ap₂ (λ a b. a ++ b) (no_own m rules sound.reached sound.of_kinds sound.bools_by_if) (no_second [] rules (none_concluded rules) sound.one_each)

module _ (count : ℕ) (rules : List Rule) (values : List ℕ) (declared : AreDeclared count rules) (are : AreRanks count rules values) where
  found_is : (o : Option Rule) → found_by (map (λ (v : ℕ). Some v) values) (option_map (λ r. mentions r.expr) o) ≡ Some (rank_by values o)
  found_is None = refl
  found_is (Some r) = ap (option_map (λ k. 1 + k)) (highest_is (rank_found (map (λ (v : ℕ). Some v) values)) (rank_at values) (mentions r.expr) (λ b. complete_at values b.0))

  right : (a : AttrId) (n : ℕ) → slice_get (map (λ (v : ℕ). Some v) values) a.0 ≡ Some (Some n) → found_by (map (λ (v : ℕ). Some v) values) (uses_by rules a) ≡ Some n
  right a n is =
      let lt : a.0 < length (map (λ (v : ℕ). Some v) values) = slice_get_within (map (λ (v : ℕ). Some v) values) a.0 (Some n) is in
      let within : a.0 < count = omega (arith, lt, length-map values (λ (v : ℕ). Some v), are.for_each) in
      let whole : Some (Some (rank_at values a)) ≡ Some (Some n) = sym (within_at values a.0 (omega (arith, within, are.for_each))) ∙ is in
      let own : rank_at values a ≡ n = cc in
      found_is (rule_of rules a) ∙ ap Some (sym (are.by_rules a within) ∙ own)

  pub all_taken : (a : AttrId) → IsTaken rules a
  all_taken a = is_taken count rules (map (λ (v : ℕ). Some v) values) declared (length-map values (λ (v : ℕ). Some v) ∙ are.for_each) right a (rank_at values a) (complete_at values a.0)

pub not_both : (rules : List Rule) (a : AttrId) → IsLeft rules a → IsTaken rules a → ⊥
not_both rules a left (n, gone) = false≢true (sym gone ∙ left n)

pub accepted_are_not_refused_holds : AcceptedAreNotRefused
accepted_are_not_refused_holds m rules fault accepted refused =
    let none = ap first_fault (no_faults m rules accepted.sound) in
    let circle : HasCircle rules fault = subst (λ (o : Option RbFault). IsRefusedBy o rules fault) none refused in
    not_both rules circle.start circle.least.left (all_taken (length m.attributes) rules accepted.ranks accepted.sound.attributes_declared accepted.ranked circle.start)
