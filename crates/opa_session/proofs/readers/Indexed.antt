-- An index, as slots are added.
use Rattle.std.proofs.Common.{◌≡◌, ◌⊎◌, inl, inr, ℕ, ◌+◌, ◌<◌, List, [], ◌∷◌, ◌++◌, length, get_or, take, Option, Contains, sym, ◌∙◌, ap, subst}
use Rattle.std.specs.BTreeSet.{BTreeSet}
use Rattle.std.specs.FinMap.{empty, get-empty}
use Rattle.std.proofs.lemmas.List.{take_more}
use Rattle.std.proofs.lemmas.List.Elements.{Contains-append_left, Contains-append_right, Contains-append_cases}
use Rattle.opa_model.specs.declared.ids.AttrId.{AttrId}
use Rattle.opa_model.specs.declared.ids.RelId.{RelId}
use Rattle.opa_cells.specs.Keys.{cell_cmp}
use Rattle.opa_cells.specs.declared.instance.InstanceId.{InstanceId}
use Rattle.opa_case.specs.Cases.{CaseView}
use Rattle.opa_case.specs.declared.question.Question.{Question}
use Rattle.opa_case.specs.declared.question.Question.TheVariants as question
use Rattle.opa_mean.specs.Gathering.{AreThose}
use Rattle.opa_mean.specs.Reached.Dirty.{slot_reads}
use Rattle.opa_mean.specs.Reached.Settling.{SamePair, Waiting, AreReaders}
use Rattle.opa_mean.specs.Reached.Slots.{pairs_of, slots_in}
use Rattle.opa_mean.specs.declared.reached.slot.Slot.{Slot}
use Rattle.opa_mean.specs.Changes.{slots}
use Rattle.opa_mean.specs.Given.{base_of, facts_of}
use Rattle.opa_mean.specs.Rulebases.{IsOf}
use Rattle.opa_mean.specs.SlotLaws.{SlotsAreLive}
use Rattle.opa_tree.specs.declared.rulebase.Rulebase.{Rulebase}
use Rattle.opa_tree.proofs.Members.{none_in, contains_head, contains_cases}
use Rattle.opa_session.specs.Readers.Indexes.{Table, slots_at, readers_in, SameKey, AddsAt, AddsReads, AreReadersAmong}
use Rattle.opa_session.specs.declared.readers.index.Index.{Index}

nothing : (k : ℕ × InstanceId) → slots_at empty k ≡ []
nothing k = ap (λ (o : Option (BTreeSet Slot)). pairs_of (slots_in o)) (get-empty cell_cmp k)

pub line_added : (old new : Index) (m : AttrId) (k : InstanceId) (a : AttrId) (i : InstanceId) → AddsAt old.lines new.lines (m.0, k) (a, i) → new.lists ≡ old.lists → AddsReads (question.Attr m k ∷ []) a i old new
line_added old new m k a i adds same (question.Attr b j) x = (λ h. out ((adds (b.0, j) x).0 h), λ h. into h)
  where
    out : Contains (slots_at old.lines (b.0, j)) x ⊎ (SameKey (m.0, k) (b.0, j) × SamePair (a, i) x) → Contains (slots_at old.lines (b.0, j)) x ⊎ (SamePair (a, i) x × Contains (question.Attr m k ∷ []) (question.Attr b j))
    out (inl h) = inl h
    out (inr h) = inr (h.1, subst (λ (p : ℕ × InstanceId). let y : AttrId = record { 0 = p.0 } in Contains (question.Attr m k ∷ []) (question.Attr y p.1)) h.0 (contains_head (question.Attr m k) []))

    key : question.Attr m k ≡ question.Attr b j → SameKey (m.0, k) (b.0, j)
    key e = let attrs : m ≡ b = cc e in let insts : k ≡ j = cc e in ap (λ (y : AttrId). let p : ℕ × InstanceId = (y.0, k) in p) attrs ∙ ap (λ (y : InstanceId). let p : ℕ × InstanceId = (b.0, y) in p) insts

    at : (question.Attr m k ≡ question.Attr b j) ⊎ Contains [] (question.Attr b j) → SamePair (a, i) x → Contains (slots_at new.lines (b.0, j)) x
    at (inl e) s = (adds (b.0, j) x).1 (inr (key e, s))
    at (inr none) s = absurd (none_in _ none)

    into : Contains (slots_at old.lines (b.0, j)) x ⊎ (SamePair (a, i) x × Contains (question.Attr m k ∷ []) (question.Attr b j)) → Contains (slots_at new.lines (b.0, j)) x
    into (inl h) = (adds (b.0, j) x).1 (inl h)
    into (inr h) = at (contains_cases (question.Attr m k) (question.Attr b j) [] h.1) h.0
line_added old new m k a i adds same (question.Members q j) x = (
  λ h. inl (subst (λ (g : Table). Contains (slots_at g (q.0, j)) x) same h),
  λ h. into h,
)
  where
    at : (question.Attr m k ≡ question.Members q j) ⊎ Contains [] (question.Members q j) → Contains (slots_at new.lists (q.0, j)) x
    at (inl e) = absurd (cc e)
    at (inr none) = absurd (none_in _ none)

    into : Contains (slots_at old.lists (q.0, j)) x ⊎ (SamePair (a, i) x × Contains (question.Attr m k ∷ []) (question.Members q j)) → Contains (slots_at new.lists (q.0, j)) x
    into (inl h) = subst (λ (g : Table). Contains (slots_at g (q.0, j)) x) (sym same) h
    into (inr h) = at (contains_cases (question.Attr m k) (question.Members q j) [] h.1)

-- at the same questions, in whatever number
pub adds_those : (found those : List Question) (a : AttrId) (i : InstanceId) (old new : Index) → AreThose found those → AddsReads found a i old new → AddsReads those a i old new
adds_those found those a i old new same adds q x = (λ h. out ((adds q x).0 h), λ h. (adds q x).1 (into h))
  where
    out : Contains (readers_in old q) x ⊎ (SamePair (a, i) x × Contains found q) → Contains (readers_in old q) x ⊎ (SamePair (a, i) x × Contains those q)
    out (inl h) = inl h
    out (inr h) = inr (h.0, (same q).0 h.1)

    into : Contains (readers_in old q) x ⊎ (SamePair (a, i) x × Contains those q) → Contains (readers_in old q) x ⊎ (SamePair (a, i) x × Contains found q)
    into (inl h) = inl h
    into (inr h) = inr (h.0, (same q).1 h.1)

pub list_added : (old new : Index) (m : RelId) (k : InstanceId) (a : AttrId) (i : InstanceId) → AddsAt old.lists new.lists (m.0, k) (a, i) → new.lines ≡ old.lines → AddsReads (question.Members m k ∷ []) a i old new
list_added old new m k a i adds same (question.Members b j) x = (λ h. out ((adds (b.0, j) x).0 h), λ h. into h)
  where
    out : Contains (slots_at old.lists (b.0, j)) x ⊎ (SameKey (m.0, k) (b.0, j) × SamePair (a, i) x) → Contains (slots_at old.lists (b.0, j)) x ⊎ (SamePair (a, i) x × Contains (question.Members m k ∷ []) (question.Members b j))
    out (inl h) = inl h
    out (inr h) = inr (h.1, subst (λ (p : ℕ × InstanceId). let y : RelId = record { 0 = p.0 } in Contains (question.Members m k ∷ []) (question.Members y p.1)) h.0 (contains_head (question.Members m k) []))

    key : question.Members m k ≡ question.Members b j → SameKey (m.0, k) (b.0, j)
    key e = let rels : m ≡ b = cc e in let insts : k ≡ j = cc e in ap (λ (y : RelId). let p : ℕ × InstanceId = (y.0, k) in p) rels ∙ ap (λ (y : InstanceId). let p : ℕ × InstanceId = (b.0, y) in p) insts

    at : (question.Members m k ≡ question.Members b j) ⊎ Contains [] (question.Members b j) → SamePair (a, i) x → Contains (slots_at new.lists (b.0, j)) x
    at (inl e) s = (adds (b.0, j) x).1 (inr (key e, s))
    at (inr none) s = absurd (none_in _ none)

    into : Contains (slots_at old.lists (b.0, j)) x ⊎ (SamePair (a, i) x × Contains (question.Members m k ∷ []) (question.Members b j)) → Contains (slots_at new.lists (b.0, j)) x
    into (inl h) = (adds (b.0, j) x).1 (inl h)
    into (inr h) = at (contains_cases (question.Members m k) (question.Members b j) [] h.1) h.0
list_added old new m k a i adds same (question.Attr b j) x = (
  λ h. inl (subst (λ (g : Table). Contains (slots_at g (b.0, j)) x) same h),
  λ h. into h,
)
  where
    at : (question.Members m k ≡ question.Attr b j) ⊎ Contains [] (question.Attr b j) → Contains (slots_at new.lines (b.0, j)) x
    at (inl e) = absurd (cc e)
    at (inr none) = absurd (none_in _ none)

    into : Contains (slots_at old.lines (b.0, j)) x ⊎ (SamePair (a, i) x × Contains (question.Members m k ∷ []) (question.Attr b j)) → Contains (slots_at new.lines (b.0, j)) x
    into (inl h) = subst (λ (g : Table). Contains (slots_at g (b.0, j)) x) (sym same) h
    into (inr h) = at (contains_cases (question.Members m k) (question.Attr b j) [] h.1)

-- two empty maps
pub none_read : (lines lists : Table) → lines ≡ empty → lists ≡ empty → (q : Question) → let x : Index = record { lines = lines; lists = lists } in readers_in x q ≡ []
none_read lines lists e f (question.Attr a i) = ap (λ (t : Table). slots_at t (a.0, i)) e ∙ nothing (a.0, i)
none_read lines lists e f (question.Members q i) = ap (λ (t : Table). slots_at t (q.0, i)) f ∙ nothing (q.0, i)

-- no question, and one more
pub reads_none : (a : AttrId) (i : InstanceId) (x : Index) → AddsReads [] a i x x
reads_none a i x q y = (λ h. inl h, λ h. back h)
  where
    back : Contains (readers_in x q) y ⊎ (SamePair (a, i) y × Contains [] q) → Contains (readers_in x q) y
    back (inl h) = h
    back (inr h) = absurd (none_in q h.1)

reads_more : (a : AttrId) (i : InstanceId) (xs ys : List Question) (old mid new : Index) → AddsReads xs a i old mid → AddsReads ys a i mid new → AddsReads (xs ++ ys) a i old new
reads_more a i xs ys old mid new f g q z = (λ h. out ((g q z).0 h), λ h. into h)
  where
    first : Contains (readers_in old q) z ⊎ (SamePair (a, i) z × Contains xs q) → Contains (readers_in old q) z ⊎ (SamePair (a, i) z × Contains (xs ++ ys) q)
    first (inl h) = inl h
    first (inr h) = inr (h.0, Contains-append_left xs ys q h.1)

    out : Contains (readers_in mid q) z ⊎ (SamePair (a, i) z × Contains ys q) → Contains (readers_in old q) z ⊎ (SamePair (a, i) z × Contains (xs ++ ys) q)
    out (inl h) = first ((f q z).0 h)
    out (inr h) = inr (h.0, Contains-append_right xs ys q h.1)

    either : SamePair (a, i) z → Contains xs q ⊎ Contains ys q → Contains (readers_in new q) z
    either e (inl h) = (g q z).1 (inl ((f q z).1 (inr (e, h))))
    either e (inr h) = (g q z).1 (inr (e, h))

    into : Contains (readers_in old q) z ⊎ (SamePair (a, i) z × Contains (xs ++ ys) q) → Contains (readers_in new q) z
    into (inl h) = (g q z).1 (inl ((f q z).1 (inl h)))
    into (inr h) = either h.0 (Contains-append_cases xs ys q h.1)

pub reads_next : (a : AttrId) (i : InstanceId) (xs : List Question) (k : ℕ) (x : Question) (old mid new : Index) → k < length xs → x ≡ get_or xs k x → AddsReads (take k xs) a i old mid → AddsReads (x ∷ []) a i mid new → AddsReads (take (k + 1) xs) a i old new
reads_next a i xs k x old mid new lt is f g =
    subst (λ ys. AddsReads ys a i old new) (sym (take_more xs k x lt ∙ ap (λ z. take k xs ++ z ∷ []) (sym is))) (reads_more a i (take k xs) (x ∷ []) old mid new f g)

module _ (r : Rulebase) (c : CaseView) where
  -- no slot, and one more
  pub among_none : (readers : Question → Waiting) → ((q : Question) → readers q ≡ []) → AreReadersAmong r c [] readers
  among_none readers none q x = (λ h. absurd (none_in x (subst (λ ys. Contains ys x) (none q) h)), λ h. absurd (none_in x h.0))

  among_more : (slots : List (AttrId × InstanceId)) (s : AttrId × InstanceId) (mid new : Index) → AreReadersAmong r c slots (readers_in mid) → AddsReads (slot_reads r c s.0 s.1) s.0 s.1 mid new → AreReadersAmong r c (slots ++ s ∷ []) (readers_in new)
  among_more slots s mid new f g q x = (λ h. out ((g q x).0 h), λ h. into (Contains-append_cases slots (s ∷ []) x h.0) h.1)
    where
      out : Contains (readers_in mid q) x ⊎ (SamePair (s.0, s.1) x × Contains (slot_reads r c s.0 s.1) q) → Contains (slots ++ s ∷ []) x × Contains (slot_reads r c x.0 x.1) q
      out (inl h) = let both = (f q x).0 h in (Contains-append_left slots (s ∷ []) x both.0, both.1)
      out (inr h) = (
        Contains-append_right slots (s ∷ []) x (subst (λ (y : AttrId × InstanceId). Contains (s ∷ []) y) h.0 (contains_head s [])),
        subst (λ (y : AttrId × InstanceId). Contains (slot_reads r c y.0 y.1) q) h.0 h.1,
      )

      last : SamePair s x ⊎ Contains {X = AttrId × InstanceId} [] x → Contains (slot_reads r c x.0 x.1) q → Contains (readers_in new q) x
      last (inl e) h = (g q x).1 (inr (e, subst (λ (y : AttrId × InstanceId). Contains (slot_reads r c y.0 y.1) q) (sym e) h))
      last (inr none) h = absurd (none_in x none)

      into : Contains slots x ⊎ Contains (s ∷ []) x → Contains (slot_reads r c x.0 x.1) q → Contains (readers_in new q) x
      into (inl there) h = (g q x).1 (inl ((f q x).1 (there, h)))
      into (inr one) h = last (contains_cases s x [] one) h

  pub among_next : (slots : List (AttrId × InstanceId)) (k : ℕ) (s : AttrId × InstanceId) (mid new : Index) → k < length slots → s ≡ get_or slots k s → AreReadersAmong r c (take k slots) (readers_in mid) → AddsReads (slot_reads r c s.0 s.1) s.0 s.1 mid new
      → AreReadersAmong r c (take (k + 1) slots) (readers_in new)
  among_next slots k s mid new lt is f g =
      subst (λ ys. AreReadersAmong r c ys (readers_in new)) (sym (take_more slots k s lt ∙ ap (λ z. take k slots ++ z ∷ []) (sym is))) (among_more (take k slots) s mid new f g)

  -- those among all slots are the readers
  pub readers_are : SlotsAreLive → IsOf r c → (xs : List (AttrId × InstanceId)) → xs ≡ slots (base_of r) (facts_of c) → (readers : Question → Waiting) → AreReadersAmong r c xs readers → AreReaders r c readers
  readers_are law is xs are readers h = record {
    slots = λ q a i there. (law r c is a i).0 (subst (λ ys. Contains ys (a, i)) are ((h q (a, i)).0 there).0);
    read = λ q a i there. ((h q (a, i)).0 there).1;
    all = λ q a i slot reads. (h q (a, i)).1 (subst (λ ys. Contains ys (a, i)) (sym are) ((law r c is a i).1 slot), reads);
  }
