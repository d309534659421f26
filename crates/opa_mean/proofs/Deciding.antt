-- Nothing outside its needs can decide an unknown point, and it has a need, by recursion on rank.
use Rattle.std.proofs.Common.{◌≡◌, ◌≢◌, ℕ, zero, suc, List, [], ◌∷◌, Bool, true, false, cond, Option, None, Some, refl, sym, ◌∙◌, ap, subst}
use Rattle.std.specs.List.{AllByRecursion}
use Rattle.opa_value.specs.declared.value.Value.{Value}
use Rattle.opa_value.specs.declared.value.Value.TheVariants.{Unknown, Uncertain, Bool as Truth, Num, Words, Day}
use Rattle.opa_value.specs.Fit.{fit_of}
use Rattle.opa_model.specs.declared.ids.AttrId.{AttrId}
use Rattle.opa_model.specs.declared.ids.RelId.{RelId}
use Rattle.opa_cells.specs.declared.instance.InstanceId.{InstanceId}
use Rattle.opa_cells.specs.Instances.{global}
use Rattle.opa_tree.specs.declared.rules.Rule.{Rule}
use Rattle.opa_tree.specs.Rules.{rule_of}
use Rattle.opa_case.specs.Live.{walk}
use Rattle.opa_mean.specs.Completion.{AreFacts, Completes}
use Rattle.opa_mean.specs.Frees.{IsFree}
use Rattle.opa_mean.specs.Bases.{IsBase}
use Rattle.opa_mean.specs.Mean.{is_money, Base, Facts, IsLive, look_of, concluded, fitted, mean_by, mean}
use Rattle.opa_mean.specs.Meaning.{value}
use Rattle.opa_mean.specs.Needs.{gap, asked, if_unknown, needs, needs_or, needs_by, needs_of, IsOpen, UnknownHasNeed, OnlyNeedsDecide}
use Rattle.opa_mean.specs.Uses.{Use, Point, Listed}
use Rattle.opa_mean.proofs.Asking.{value_asks}
use Rattle.opa_mean.proofs.Completing.{good_rule, grown, mean_grows}
use Rattle.opa_mean.proofs.Gaps.{gap_open, Open}
use Rattle.opa_mean.proofs.Staying.{value_stays}

-- a rounded value is unknown only where the value is
fit_reflects : (b : Bool) (v : Value) → fit_of b v ≡ Unknown → v ≡ Unknown
fit_reflects true (Num n) e = absurd (cc e)
fit_reflects _ v e = e

-- the needs of what is unknown
unknown_needs : (v : Value) (us : List Use) → v ≡ Unknown → if_unknown v us ≡ us
unknown_needs v us e = ap (λ x. if_unknown x us) e

module _ (b : Base) (is : IsBase b) (c c' : Facts) (are : AreFacts b.shape c) (are' : AreFacts b.shape c') (h : Completes c c') where
  abbrev AllOpen : List Use → Type 0
  AllOpen us = AllByRecursion (IsOpen c') us

  open_gap : (u : Use) → IsOpen c' u → Open b.shape c.members c'.members h.lists u
  open_gap (Point a i d) o = tt
  open_gap (Listed r i) o = o

  list_open : (r : RelId) (i : InstanceId) → IsLive c i → i.entity.0 ≡ b.shape.source r → c.members r i ≡ None → IsOpen c' (asked b.shape c.members r i) → c'.members r i ≡ None
  list_open r i live at unlisted o = go (b.shape.every r) refl o
    where
      go : (t : Bool) → b.shape.every r ≡ t → IsOpen c' (cond t (gap b.shape c.members (b.shape.target r)) (Listed r i)) → c'.members r i ≡ None
      go false e o = o
      go true e o =
          let one : i ≡ global = are.only_global i live (at ∙ is.of_global r e) in
          let unknown : walk b.shape c.members b.shape.count (b.shape.target r) ≡ None = (are.every r e).0 (sym (ap (c.members r) one) ∙ unlisted) in
          ap (c'.members r) one ∙ (are'.every r e).1 (gap_open b.shape c.members c'.members h.lists b.shape.count (b.shape.target r) unknown (open_gap _ o))

  stays : (n : ℕ) (a : AttrId) (i : InstanceId) (d : ℕ) → IsFree b a → IsLive c i → mean_by b c n a i d ≡ Unknown → AllOpen (needs_by b c n a i d) → mean_by b c' n a i d ≡ Unknown
  unfolding mean_by needs_by
  stays zero a i d free live un open_ = absurd (cc un)
  stays (suc n) a i d free live un open_ = go (rule_of b.rules a) refl un open_ (stays n)
    where
      go : (o : Option Rule) → rule_of b.rules a ≡ o
          → concluded o (c.answer a i d) (λ e. fitted b.shape a (value b.shape (look_of c (mean_by b c n)) e (i ∷ []) d)) ≡ Unknown
          → AllOpen (needs_or o (Point a i d ∷ []) (λ e. needs b.shape (look_of c (mean_by b c n)) (asked b.shape c.members) (needs_by b c n) e (i ∷ []) d))
          → ((a : AttrId) (i : InstanceId) (d : ℕ) → IsFree b a → IsLive c i → mean_by b c n a i d ≡ Unknown → AllOpen (needs_by b c n a i d) → mean_by b c' n a i d ≡ Unknown)
          → concluded o (c'.answer a i d) (λ e. fitted b.shape a (value b.shape (look_of c' (mean_by b c' n)) e (i ∷ []) d)) ≡ Unknown
      go None e un k rec = k.0
      go (Some rule) e un k rec =
          sym (ap (fitted b.shape a) (value_stays b.shape (IsLive c) (IsFree b) (look_of c (mean_by b c n)) (look_of c' (mean_by b c' n))
          (grown b c c' are h (mean_by b c n) (mean_by b c' n) (mean_grows b c c' are h n))
          (asked b.shape c.members) (needs_by b c n) (IsOpen c') list_open rec rule.expr (good_rule b a free rule e) (i ∷ []) (live, tt) d
          (subst AllOpen (sym (unknown_needs _ _ (fit_reflects (is_money (b.shape.attribute a).kind) _ un))) k))) ∙ un

  pub only_needs_decide : OnlyNeedsDecide b c c'
  only_needs_decide a i d free live un k = stays (suc (b.rank a)) a i d free live un (subst AllOpen (unknown_needs (mean b c a i d) (needs_by b c (suc (b.rank a)) a i d) un) k)

module _ (b : Base) (is : IsBase b) (c : Facts) where
  asks : (n : ℕ) (a : AttrId) (i : InstanceId) (d : ℕ) → mean_by b c n a i d ≡ Unknown → needs_by b c n a i d ≡ [] → ⊥
  unfolding mean_by needs_by
  asks zero a i d un none = cc un
  asks (suc n) a i d un none = go (rule_of b.rules a) refl un none (asks n)
    where
      go : (o : Option Rule) → rule_of b.rules a ≡ o
          → concluded o (c.answer a i d) (λ e. fitted b.shape a (value b.shape (look_of c (mean_by b c n)) e (i ∷ []) d)) ≡ Unknown
          → needs_or o (Point a i d ∷ []) (λ e. needs b.shape (look_of c (mean_by b c n)) (asked b.shape c.members) (needs_by b c n) e (i ∷ []) d) ≡ []
          → ((a : AttrId) (i : InstanceId) (d : ℕ) → mean_by b c n a i d ≡ Unknown → needs_by b c n a i d ≡ [] → ⊥) → ⊥
      go None e un none rec = cc none
      go (Some rule) e un none rec = value_asks b.shape (look_of c (mean_by b c n)) (asked b.shape c.members) (needs_by b c n) rec rule.expr true (is.formed a rule e) (i ∷ []) d (fit_reflects (is_money (b.shape.attribute a).kind) _ un) none

  pub unknown_has_need : UnknownHasNeed b c
  unknown_has_need a i d = (has, needs)
    where
      has : mean b c a i d ≡ Unknown → needs_of b c a i d ≢ []
      has un none = asks (suc (b.rank a)) a i d un (sym (unknown_needs (mean b c a i d) (needs_by b c (suc (b.rank a)) a i d) un) ∙ none)

      needs : needs_of b c a i d ≢ [] → mean b c a i d ≡ Unknown
      needs some = go (mean b c a i d) refl
        where
          go : (v : Value) → mean b c a i d ≡ v → mean b c a i d ≡ Unknown
          go Unknown e = e
          go Uncertain e = absurd (some (ap (λ v. if_unknown v (needs_by b c (suc (b.rank a)) a i d)) e))
          go (Truth t) e = absurd (some (ap (λ v. if_unknown v (needs_by b c (suc (b.rank a)) a i d)) e))
          go (Num n) e = absurd (some (ap (λ v. if_unknown v (needs_by b c (suc (b.rank a)) a i d)) e))
          go (Words t) e = absurd (some (ap (λ v. if_unknown v (needs_by b c (suc (b.rank a)) a i d)) e))
          go (Day k) e = absurd (some (ap (λ v. if_unknown v (needs_by b c (suc (b.rank a)) a i d)) e))
