-- What is left of entries where the slots of what goes are taken out.
use Rattle.std.proofs.Common.{◌≡◌, ◌<◌, ◌+◌, ℕ, Bool, true, false, cond, List, [], ◌∷◌, length, take, get_or, Option, None, is_some, Contains, refl, sym, ◌∙◌, ap, subst}
use Rattle.std.specs.Prelude.{◌&&◌, ◌||◌, ◌==◌}
use Rattle.std.specs.List.{list_any}
use Rattle.std.specs.FinMap.{get, remove}
use Rattle.std.proofs.lemmas.Bool.{and_parts, eqb-true}
use Rattle.std.proofs.lemmas.List.{take_more}
use Rattle.std.proofs.lemmas.List.Folds.{list_any-append}
use Rattle.std.proofs.lemmas.Map.Views.{exact_unsigned_eq}
use Rattle.opa_io.proofs.Lists.{any_both}
use Rattle.opa_model.specs.declared.ids.AttrId.{AttrId}
use Rattle.opa_cells.specs.Instances.{is_same}
use Rattle.opa_cells.specs.declared.instance.InstanceId.{InstanceId}
use Rattle.opa_cells.proofs.Orders.{same_is}
use Rattle.opa_case.specs.Live.{Population}
use Rattle.opa_case.specs.Shapes.{shape_of}
use Rattle.opa_case.specs.Turns.{is_among}
use Rattle.opa_case.proofs.Taken.{one_taken, then_taken}
use Rattle.opa_tree.specs.declared.rulebase.Rulebase.{Rulebase}
use Rattle.opa_tree.specs.Rules.{rule_of}
use Rattle.opa_mean.specs.Places.{owner_of}
use Rattle.opa_session.specs.Store.Drops.{goes_at, has_slot, is_named, slot_at}
use Rattle.opa_session.specs.Store.Entries.{Entries, kept_in}
use Rattle.opa_session.specs.Store.Owners.{AreOwners, owned_in}
use Rattle.opa_session.specs.Store.Stores.{kept_lines}
use Rattle.opa_session.specs.declared.store.entry.Entry.{Entry}
use Rattle.opa_session.specs.declared.store.owners.Owners.{Owners}
use Rattle.opa_session.proofs.store.Owning.{in_ruled, named_in}

abbrev attr_at : ℕ → AttrId
attr_at n = record { 0 = n }

never : (x y : Bool) → (x && false) ≡ (y && false)
never true true = refl
never true false = refl
never false true = refl
never false false = refl

module _ (r : Rulebase) (m : Entries) (n : ℕ) (i : InstanceId) where
  -- at the instance itself the test is that of the instance
  same_test : (a : ℕ) (j : InstanceId) → (has_slot r (attr_at a) i && is_same j i) ≡ slot_at r i a j
  same_test a j = go (is_same j i) refl
    where
      go : (b : Bool) → is_same j i ≡ b → (has_slot r (attr_at a) i && is_same j i) ≡ slot_at r i a j
      go true e = ap (λ (x : InstanceId). has_slot r (attr_at a) x && is_same j i) (sym (same_is j i e))
      go false e = ap (λ b. has_slot r (attr_at a) i && b) e ∙ never (has_slot r (attr_at a) i) (has_slot r (attr_at a) j) ∙ ap (λ b. has_slot r (attr_at a) j && b) (sym e)

  pub slot_taken : has_slot r (attr_at n) i ≡ true → (a : ℕ) (j : InstanceId) → get (remove m (n, i)) (a, j) ≡ cond ((a == n) && slot_at r i a j) None (get m (a, j))
  slot_taken has a j = one_taken m n i (λ k. has_slot r (attr_at k) i) has a j ∙ ap (λ b. cond ((a == n) && b) None (get m (a, j))) (same_test a j)

  pub slot_stays : has_slot r (attr_at n) i ≡ false → (a : ℕ) (j : InstanceId) → get m (a, j) ≡ cond ((a == n) && slot_at r i a j) None (get m (a, j))
  slot_stays none a j = go (a == n) refl
    where
      off : a ≡ n → slot_at r i a j ≡ false
      off e = sym (same_test a j) ∙ ap (λ k. has_slot r (attr_at k) i && is_same j i) e ∙ ap (λ b. b && is_same j i) none

      go : (b : Bool) → (a == n) ≡ b → get m (a, j) ≡ cond ((a == n) && slot_at r i a j) None (get m (a, j))
      go true e = sym (ap (λ b. cond ((a == n) && b) None (get m (a, j))) (off (exact_unsigned_eq a n e)) ∙ ap (λ b. cond (b && false) None (get m (a, j))) e)
      go false e = sym (ap (λ b. cond (b && slot_at r i a j) None (get m (a, j))) e)

pub and_last : (b c s : Bool) → ((b && s) || (c && s)) ≡ ((b || c) && s)
and_last true c true = refl
and_last true true false = refl
and_last true false false = refl
and_last false c s = refl

-- one attribute more
pub drops_next : (r : Rulebase) (i : InstanceId) (attrs : List AttrId) (k : ℕ) (d : AttrId) (a : ℕ) (j : InstanceId) (o p q : Option Entry) → k < length attrs → p ≡ cond (is_named (take k attrs) a && slot_at r i a j) None o
    → q ≡ cond ((a == (get_or attrs k d).0) && slot_at r i a j) None p → q ≡ cond (is_named (take (k + 1) attrs) a && slot_at r i a j) None o
drops_next r i attrs k d a j o p q lt before next =
    then_taken o p q (is_named (take k attrs) a && slot_at r i a j) (λ _. (a == (get_or attrs k d).0) && slot_at r i a j) _ before next
    (and_last (is_named (take k attrs) a) (a == (get_or attrs k d).0) (slot_at r i a j) ∙ ap (λ b. b && slot_at r i a j) (or_nothing (is_named (take k attrs) a) (a == (get_or attrs k d).0) ∙ sym (list_any-append (λ (b : AttrId). a == b.0) (take k attrs) (get_or attrs k d ∷ [])) ∙ ap (λ xs. is_named xs a) (sym (take_more attrs k d lt))))
  where
    or_nothing : (b c : Bool) → (b || c) ≡ (b || (c || false))
    or_nothing true c = refl
    or_nothing false true = refl
    or_nothing false false = refl

any_as : {A : Type 0} (p q : A → Bool) (xs : List A) → ((x : A) → p x ≡ q x) → list_any p xs ≡ list_any q xs
any_as p q [] same = refl
any_as p q (x ∷ xs) same = ap (λ b. b || list_any p xs) (same x) ∙ ap (λ b. q x || b) (any_as p q xs same)

-- what is kept is left, but at the slots of what goes
module _ (r : Rulebase) (owners : Owners) (are : AreOwners r owners) (went : Population) (old new : Entries) (drops : (a : ℕ) (j : InstanceId) → get new (a, j) ≡ cond (list_any (λ g. goes_at r owners g.0 a j) went) None (get old (a, j))) where
  -- a slot's attribute is among those of its instance's entity
  is_owned : (a : AttrId) (i : InstanceId) → has_slot r a i ≡ true → is_named (owned_in owners i.entity.0) a.0 ≡ true
  is_owned a i has =
      let both = and_parts (i.entity.0 == owner_of (shape_of r.model) a) (is_some (rule_of r.rules a)) has in
      named_in (owned_in owners i.entity.0) a (subst (λ (xs : List AttrId). Contains xs a) (sym (are i.entity.0)) (in_ruled (shape_of r.model) i.entity.0 a r.rules (eqb-true i.entity.0 (owner_of (shape_of r.model) a) both.0) both.1))

  one_goes : (a : AttrId) (i : InstanceId) (g : InstanceId × InstanceId) → goes_at r owners g.0 a.0 i ≡ (has_slot r a i && is_same i g.0)
  one_goes a i g = go (has_slot r a i) (is_same i g.0) refl refl
    where
      off : (b : Bool) → (b && false) ≡ false
      off true = refl
      off false = refl

      goes : (h s : Bool) → has_slot r a i ≡ h → is_same i g.0 ≡ s → goes_at r owners g.0 a.0 i ≡ (is_named (owned_in owners g.0.entity.0) a.0 && (h && s))
      goes h s eh es = ap (λ b. is_named (owned_in owners g.0.entity.0) a.0 && (b && is_same i g.0)) eh ∙ ap (λ b. is_named (owned_in owners g.0.entity.0) a.0 && (h && b)) es

      go : (h s : Bool) → has_slot r a i ≡ h → is_same i g.0 ≡ s → goes_at r owners g.0 a.0 i ≡ (has_slot r a i && is_same i g.0)
      go true true eh es =
          goes true true eh es
          ∙ ap (λ b. b && true) (ap (λ (x : InstanceId). is_named (owned_in owners x.entity.0) a.0) (sym (same_is i g.0 es)) ∙ is_owned a i eh)
          ∙ sym (ap (λ b. b && is_same i g.0) eh ∙ es)
      go true false eh es = goes true false eh es ∙ off (is_named (owned_in owners g.0.entity.0) a.0) ∙ sym (ap (λ b. b && is_same i g.0) eh ∙ es)
      go false s eh es = goes false s eh es ∙ off (is_named (owned_in owners g.0.entity.0) a.0) ∙ sym (ap (λ b. b && is_same i g.0) eh)

  flag : (a : AttrId) (i : InstanceId) → list_any (λ g. goes_at r owners g.0 a.0 i) went ≡ (has_slot r a i && is_among went i)
  flag a i = any_as (λ (g : InstanceId × InstanceId). goes_at r owners g.0 a.0 i) (λ (g : InstanceId × InstanceId). has_slot r a i && is_same i g.0) went (one_goes a i) ∙ any_both (has_slot r a i) (λ g. is_same i g.0) went

  pub dropped_lines : (a : AttrId) (i : InstanceId) → kept_lines new a i ≡ cond (has_slot r a i && is_among went i) None (kept_lines old a i)
  dropped_lines a i = ap kept_in (drops a.0 i) ∙ push (list_any (λ g. goes_at r owners g.0 a.0 i) went) (get old (a.0, i)) ∙ ap (λ b. cond b None (kept_lines old a i)) (flag a i)
    where
      push : (b : Bool) (o : Option Entry) → kept_in (cond b None o) ≡ cond b None (kept_in o)
      push true o = refl
      push false o = refl
