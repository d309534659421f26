-- Slots that are taken out of an index.
use Rattle.std.proofs.Common.{◌≡◌, ◌⊎◌, ◌↔◌, inl, inr, ℕ, ◌+◌, ◌<◌, Bool, true, false, cond, List, [], ◌∷◌, ◌++◌, length, get_or, take, drop, Option, None, Some, Contains, refl, sym, ◌∙◌, ap, subst}
use Rattle.std.specs.BTreeSet.{BTreeSet}
use Rattle.std.specs.Prelude.{◌&&◌}
use Rattle.std.specs.FinMap.{get, insert, remove, get-insert, get-remove}
use Rattle.std.specs.Ordering.{eq_by_cmp}
use Rattle.std.specs.Cmp.{eq_by_cmp_equiv}
use Rattle.std.proofs.lemmas.Bool.{and_parts, eqb-true, eq-eqb}
use Rattle.std.proofs.lemmas.List.{take_more, take-append-drop}
use Rattle.std.proofs.lemmas.List.Elements.{Contains-append_left, Contains-append_right, Contains-append_cases}
use Rattle.std.proofs.lemmas.Map.Views.{tells_apart}
use Rattle.opa_model.specs.declared.ids.AttrId.{AttrId}
use Rattle.opa_model.specs.declared.ids.RelId.{RelId}
use Rattle.opa_cells.specs.Instances.{is_same}
use Rattle.opa_cells.specs.Keys.{cell_cmp}
use Rattle.opa_cells.specs.declared.instance.InstanceId.{InstanceId}
use Rattle.opa_cells.proofs.Orders.{cell_exact, cell_total, same_is, same_itself}
use Rattle.opa_case.specs.declared.question.Question.{Question}
use Rattle.opa_case.specs.declared.question.Question.TheVariants as question
use Rattle.opa_mean.specs.Reached.Settling.{SamePair}
use Rattle.opa_mean.specs.Reached.Slots.{pairs_of, slots_in}
use Rattle.opa_mean.specs.declared.reached.slot.Slot.{Slot}
use Rattle.opa_tree.proofs.Members.{none_in, contains_head, contains_cases}
use Rattle.opa_session.specs.Readers.Indexes.{Table, slots_at, readers_in, SameKey, SameTable, SameIndex, TakesSlot, TakesAt, TakesReads, AddsReads, AddsSomeReads, is_slot_of, pair_of}
use Rattle.opa_session.specs.declared.readers.index.Index.{Index}
use Rattle.opa_session.proofs.readers.SlotSets.{no_pairs}

pub slot_itself : (s : Slot) → is_slot_of s.attr s.inst s ≡ true
slot_itself s = ap (λ b. b && is_same s.inst s.inst) (eq-eqb s.attr.0 s.attr.0 refl) ∙ same_itself s.inst

pub same_slot : (a : AttrId) (i : InstanceId) (s : Slot) → is_slot_of a i s ≡ true → SamePair (a, i) (pair_of s)
same_slot a i s e =
    let two = and_parts _ _ e in
    sym (ap (λ (k : ℕ). let b : AttrId = record { 0 = k } in let x : AttrId × InstanceId = (b, s.inst) in x) (eqb-true s.attr.0 a.0 two.0)
    ∙ ap (λ (j : InstanceId). let x : AttrId × InstanceId = (a, j) in x) (same_is s.inst i two.1))

takes_at : (m : Table) (k : ℕ × InstanceId) (v : BTreeSet Slot) (s : AttrId × InstanceId) → TakesSlot (slots_in (get m k)) v.keys s → TakesAt m (insert m k v) k s
takes_at m k v s h j x = go (eq_by_cmp cell_cmp j k) refl
  where
    at : (t : Bool) → eq_by_cmp cell_cmp j k ≡ t → slots_at (insert m k v) j ≡ pairs_of (slots_in (cond t (Some v) (get m j)))
    at t e = ap (λ (o : Option (BTreeSet Slot)). pairs_of (slots_in o)) (get-insert cell_total m k v j ∙ ap (λ b. cond b (Some v) (get m j)) e)

    go : (t : Bool) → eq_by_cmp cell_cmp j k ≡ t → Contains (slots_at (insert m k v) j) x ↔ (Contains (slots_at m j) x × (SameKey k j × SamePair s x → ⊥))
    go true e = (
      λ c. forth ((h x).0 (subst (λ ys. Contains ys x) (at true e) c)),
      λ c. subst (λ ys. Contains ys x) (sym (at true e)) ((h x).1 (back c)),
    )
      where
        same : SameKey k j
        same = sym (tells_apart cell_exact j k e)

        forth : Contains (slots_at m k) x × (SamePair s x → ⊥) → Contains (slots_at m j) x × (SameKey k j × SamePair s x → ⊥)
        forth c = (subst (λ (y : ℕ × InstanceId). Contains (slots_at m y) x) same c.0, λ p. c.1 p.1)

        back : Contains (slots_at m j) x × (SameKey k j × SamePair s x → ⊥) → Contains (slots_at m k) x × (SamePair s x → ⊥)
        back c = (subst (λ (y : ℕ × InstanceId). Contains (slots_at m y) x) (sym same) c.0, λ p. c.1 (same, p))
    go false e = (
      λ c. (subst (λ ys. Contains ys x) (at false e) c, λ p. cc (e, ap (λ (y : ℕ × InstanceId). eq_by_cmp cell_cmp y k) (sym p.0), (eq_by_cmp_equiv cell_total).refl k)),
      λ c. subst (λ ys. Contains ys x) (sym (at false e)) c.0,
    )

-- what is set at a key, and where there is none
pub take_there : (m new : Table) (k : ℕ × InstanceId) (old slots : BTreeSet Slot) (s : AttrId × InstanceId) → get m k ≡ Some old → new ≡ insert m k slots → TakesSlot old.keys slots.keys s → TakesAt m new k s
take_there m new k old slots s at is takes =
    subst (λ (t : Table). TakesAt m t k s) (sym is) (takes_at m k slots s (subst (λ (o : Option (BTreeSet Slot)). TakesSlot (slots_in o) slots.keys s) (sym at) takes))

pub take_nowhere : (m : Table) (k : ℕ × InstanceId) (s : AttrId × InstanceId) → get m k ≡ None → TakesAt m m k s
take_nowhere m k s none j x = (λ h. (h, λ p. gone p.0 h), λ h. h.0)
  where
    gone : SameKey k j → Contains (slots_at m j) x → ⊥
    gone same h = none_in x (subst (λ (o : Option (BTreeSet Slot)). Contains (pairs_of (slots_in o)) x) none (subst (λ (y : ℕ × InstanceId). Contains (slots_at m y) x) (sym same) h))

-- a key without slots is taken out
pub empty_gone : (m new : Table) (k : ℕ × InstanceId) → slots_at m k ≡ [] → new ≡ remove m k → SameTable m new
empty_gone m new k none is j = go (eq_by_cmp cell_cmp j k) refl
  where
    at : (t : Bool) → eq_by_cmp cell_cmp j k ≡ t → slots_at new j ≡ pairs_of (slots_in (cond t None (get m j)))
    at t e = ap (λ (u : Table). slots_at u j) is ∙ ap (λ (o : Option (BTreeSet Slot)). pairs_of (slots_in o)) (get-remove cell_total m k j ∙ ap (λ b. cond b None (get m j)) e)

    go : (t : Bool) → eq_by_cmp cell_cmp j k ≡ t → slots_at new j ≡ slots_at m j
    go true e = at true e ∙ sym none ∙ ap (λ (y : ℕ × InstanceId). slots_at m y) (sym (tells_apart cell_exact j k e))
    go false e = at false e

pub takes_then : (m mid new : Table) (k : ℕ × InstanceId) (s : AttrId × InstanceId) → TakesAt m mid k s → SameTable mid new → TakesAt m new k s
takes_then m mid new k s takes same j x = (λ h. (takes j x).0 (subst (λ ys. Contains ys x) (same j) h), λ h. subst (λ ys. Contains ys x) (sym (same j)) ((takes j x).1 h))

-- a key without slots in a map
pub none_there : (m : Table) (k : ℕ × InstanceId) (slots : BTreeSet Slot) → get m k ≡ Some slots → length slots.keys ≡ 0 → slots_at m k ≡ []
none_there m k slots at none = ap (λ (o : Option (BTreeSet Slot)). pairs_of (slots_in o)) at ∙ no_pairs slots.keys none

-- of one question
pub line_taken : (old new : Index) (m : AttrId) (k : InstanceId) (a : AttrId) (i : InstanceId) → TakesAt old.lines new.lines (m.0, k) (a, i) → new.lists ≡ old.lists → TakesReads (question.Attr m k ∷ []) a i old new
line_taken old new m k a i takes same (question.Attr b j) x = (λ h. out ((takes (b.0, j) x).0 h), λ h. (takes (b.0, j) x).1 (h.0, λ p. h.1 (p.1, named p.0)))
  where
    named : SameKey (m.0, k) (b.0, j) → Contains (question.Attr m k ∷ []) (question.Attr b j)
    named e = subst (λ (p : ℕ × InstanceId). let y : AttrId = record { 0 = p.0 } in Contains (question.Attr m k ∷ []) (question.Attr y p.1)) e (contains_head (question.Attr m k) [])

    key : question.Attr m k ≡ question.Attr b j → SameKey (m.0, k) (b.0, j)
    key e = let attrs : m ≡ b = cc e in let insts : k ≡ j = cc e in ap (λ (y : AttrId). let p : ℕ × InstanceId = (y.0, k) in p) attrs ∙ ap (λ (y : InstanceId). let p : ℕ × InstanceId = (b.0, y) in p) insts

    at : (question.Attr m k ≡ question.Attr b j) ⊎ Contains [] (question.Attr b j) → SameKey (m.0, k) (b.0, j)
    at (inl e) = key e
    at (inr none) = absurd (none_in _ none)

    out : Contains (slots_at old.lines (b.0, j)) x × (SameKey (m.0, k) (b.0, j) × SamePair (a, i) x → ⊥) → Contains (slots_at old.lines (b.0, j)) x × (SamePair (a, i) x × Contains (question.Attr m k ∷ []) (question.Attr b j) → ⊥)
    out h = (h.0, λ p. h.1 (at (contains_cases (question.Attr m k) (question.Attr b j) [] p.1), p.0))
line_taken old new m k a i takes same (question.Members q j) x = (
  λ h. (subst (λ (g : Table). Contains (slots_at g (q.0, j)) x) same h, λ p. at (contains_cases (question.Attr m k) (question.Members q j) [] p.1)),
  λ h. subst (λ (g : Table). Contains (slots_at g (q.0, j)) x) (sym same) h.0,
)
  where
    at : (question.Attr m k ≡ question.Members q j) ⊎ Contains [] (question.Members q j) → ⊥
    at (inl e) = cc e
    at (inr none) = none_in _ none

pub list_taken : (old new : Index) (m : RelId) (k : InstanceId) (a : AttrId) (i : InstanceId) → TakesAt old.lists new.lists (m.0, k) (a, i) → new.lines ≡ old.lines → TakesReads (question.Members m k ∷ []) a i old new
list_taken old new m k a i takes same (question.Members b j) x = (λ h. out ((takes (b.0, j) x).0 h), λ h. (takes (b.0, j) x).1 (h.0, λ p. h.1 (p.1, named p.0)))
  where
    named : SameKey (m.0, k) (b.0, j) → Contains (question.Members m k ∷ []) (question.Members b j)
    named e = subst (λ (p : ℕ × InstanceId). let y : RelId = record { 0 = p.0 } in Contains (question.Members m k ∷ []) (question.Members y p.1)) e (contains_head (question.Members m k) [])

    key : question.Members m k ≡ question.Members b j → SameKey (m.0, k) (b.0, j)
    key e = let rels : m ≡ b = cc e in let insts : k ≡ j = cc e in ap (λ (y : RelId). let p : ℕ × InstanceId = (y.0, k) in p) rels ∙ ap (λ (y : InstanceId). let p : ℕ × InstanceId = (b.0, y) in p) insts

    at : (question.Members m k ≡ question.Members b j) ⊎ Contains [] (question.Members b j) → SameKey (m.0, k) (b.0, j)
    at (inl e) = key e
    at (inr none) = absurd (none_in _ none)

    out : Contains (slots_at old.lists (b.0, j)) x × (SameKey (m.0, k) (b.0, j) × SamePair (a, i) x → ⊥) → Contains (slots_at old.lists (b.0, j)) x × (SamePair (a, i) x × Contains (question.Members m k ∷ []) (question.Members b j) → ⊥)
    out h = (h.0, λ p. h.1 (at (contains_cases (question.Members m k) (question.Members b j) [] p.1), p.0))
list_taken old new m k a i takes same (question.Attr b j) x = (
  λ h. (subst (λ (g : Table). Contains (slots_at g (b.0, j)) x) same h, λ p. at (contains_cases (question.Members m k) (question.Attr b j) [] p.1)),
  λ h. subst (λ (g : Table). Contains (slots_at g (b.0, j)) x) (sym same) h.0,
)
  where
    at : (question.Members m k ≡ question.Attr b j) ⊎ Contains [] (question.Attr b j) → ⊥
    at (inl e) = cc e
    at (inr none) = none_in _ none

-- no question, and one more
pub takes_none : (a : AttrId) (i : InstanceId) (x : Index) → TakesReads [] a i x x
takes_none a i x q y = (λ h. (h, λ p. none_in q p.1), λ h. h.0)

takes_more : (a : AttrId) (i : InstanceId) (xs ys : List Question) (old mid new : Index) → TakesReads xs a i old mid → TakesReads ys a i mid new → TakesReads (xs ++ ys) a i old new
takes_more a i xs ys old mid new f g q z = (λ h. let two = (g q z).0 h in let one = (f q z).0 two.0 in (one.0, λ p. out one.1 two.1 p.0 (Contains-append_cases xs ys q p.1)), λ h. (g q z).1 ((f q z).1 (h.0, λ p. h.1 (p.0, Contains-append_left xs ys q p.1)), λ p. h.1 (p.0, Contains-append_right xs ys q p.1)))
  where
    out : (SamePair (a, i) z × Contains xs q → ⊥) → (SamePair (a, i) z × Contains ys q → ⊥) → SamePair (a, i) z → Contains xs q ⊎ Contains ys q → ⊥
    out first second same (inl h) = first (same, h)
    out first second same (inr h) = second (same, h)

pub takes_next : (a : AttrId) (i : InstanceId) (xs : List Question) (k : ℕ) (x : Question) (old mid new : Index) → k < length xs → x ≡ get_or xs k x → TakesReads (take k xs) a i old mid → TakesReads (x ∷ []) a i mid new → TakesReads (take (k + 1) xs) a i old new
takes_next a i xs k x old mid new lt is f g =
    subst (λ ys. TakesReads ys a i old new) (sym (take_more xs k x lt ∙ ap (λ z. take k xs ++ z ∷ []) (sym is))) (takes_more a i (take k xs) (x ∷ []) old mid new f g)

-- some questions, where there is no memory for the next one
pub taken_in : {X : Type 0} (xs : List X) (k : ℕ) (x : X) → Contains (take k xs) x → Contains xs x
taken_in {X = X} xs k x h = subst (λ (ys : List X). Contains ys x) (take-append-drop k xs) (Contains-append_left (take k xs) (drop k xs) x h)

pub reads_some : (a : AttrId) (i : InstanceId) (xs : List Question) (k : ℕ) (old mid new : Index) → AddsReads (take k xs) a i old mid → SameIndex mid new → AddsSomeReads xs a i old new
reads_some a i xs k old mid new f same q x = (λ h. subst (λ ys. Contains ys x) (sym (same q)) ((f q x).1 (inl h)), λ h. out ((f q x).0 (subst (λ ys. Contains ys x) (same q) h)))
  where
    out : Contains (readers_in old q) x ⊎ (SamePair (a, i) x × Contains (take k xs) q) → Contains (readers_in old q) x ⊎ (SamePair (a, i) x × Contains xs q)
    out (inl h) = inl h
    out (inr h) = inr (h.0, taken_in xs k q h.1)

-- nothing is added
pub table_same : (m new : Table) (k : ℕ × InstanceId) (old slots : BTreeSet Slot) → get m k ≡ Some old → new ≡ insert m k slots → slots.keys ≡ old.keys → SameTable m new
table_same m new k old slots there is same j = go (eq_by_cmp cell_cmp j k) refl
  where
    at : (t : Bool) → eq_by_cmp cell_cmp j k ≡ t → slots_at new j ≡ pairs_of (slots_in (cond t (Some slots) (get m j)))
    at t e = ap (λ (u : Table). slots_at u j) is ∙ ap (λ (o : Option (BTreeSet Slot)). pairs_of (slots_in o)) (get-insert cell_total m k slots j ∙ ap (λ b. cond b (Some slots) (get m j)) e)

    go : (t : Bool) → eq_by_cmp cell_cmp j k ≡ t → slots_at new j ≡ slots_at m j
    go true e =
        at true e ∙ ap pairs_of same ∙ ap (λ (o : Option (BTreeSet Slot)). pairs_of (slots_in o)) (sym there)
        ∙ ap (λ (y : ℕ × InstanceId). slots_at m y) (sym (tells_apart cell_exact j k e))
    go false e = at false e

pub table_as : (m new : Table) → new ≡ m → SameTable m new
table_as m new is j = ap (λ (u : Table). slots_at u j) is

pub line_same : (old new : Index) → SameTable old.lines new.lines → new.lists ≡ old.lists → SameIndex old new
line_same old new same is (question.Attr a i) = same (a.0, i)
line_same old new same is (question.Members q i) = ap (λ (u : Table). slots_at u (q.0, i)) is

pub list_same : (old new : Index) → SameTable old.lists new.lists → new.lines ≡ old.lines → SameIndex old new
list_same old new same is (question.Attr a i) = ap (λ (u : Table). slots_at u (a.0, i)) is
list_same old new same is (question.Members q i) = same (q.0, i)
