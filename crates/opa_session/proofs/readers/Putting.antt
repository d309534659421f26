-- A renewal that is added to readers and taken out of them.
use Rattle.std.proofs.Common.{◌≡◌, ◌⊎◌, inl, inr, ℕ, ◌+◌, ◌<◌, List, [], ◌∷◌, ◌++◌, length, get_or, take, Contains, sym, ◌∙◌, ap, subst}
use Rattle.std.proofs.lemmas.List.{take_more}
use Rattle.std.proofs.lemmas.List.Elements.{Contains-append_left, Contains-append_right, Contains-append_cases}
use Rattle.opa_model.specs.declared.ids.AttrId.{AttrId}
use Rattle.opa_cells.specs.declared.instance.InstanceId.{InstanceId}
use Rattle.opa_case.specs.declared.question.Question.{Question}
use Rattle.opa_mean.specs.Reached.Settling.{SamePair, Waiting}
use Rattle.opa_tree.proofs.Members.{none_in, contains_head, contains_cases}
use Rattle.opa_session.specs.Readers.Indexes.{readers_in, AddsReads, AddsSomeReads, TakesReads, pair_of}
use Rattle.opa_session.specs.Readers.Renewals.{IsNamed, IsMore, AddsNamed, AddsMore, AddsSomeMore, TakesNamed, TakesMore, TakesLost, SameReaders, AreApart, TakesBack, TakesOut, SameAreReaders}
use Rattle.opa_session.specs.declared.readers.index.Index.{Index}
use Rattle.opa_session.specs.declared.readers.renewal.Renewal.{Renewal}
use Rattle.opa_session.specs.declared.readers.renewal.Renewed.{Renewed}
use Rattle.opa_session.proofs.readers.Taking.{taken_in}

module _ (named : Renewed → List Question) (q : Question) (x : AttrId × InstanceId) where
  none_named : IsNamed named [] q x → ⊥
  none_named h = none_in h.0 h.1.0

  named_left : (xs ys : List Renewed) → IsNamed named xs q x → IsNamed named (xs ++ ys) q x
  named_left xs ys h = (h.0, (Contains-append_left xs ys h.0 h.1.0, h.1.1))

  named_right : (xs ys : List Renewed) → IsNamed named ys q x → IsNamed named (xs ++ ys) q x
  named_right xs ys h = (h.0, (Contains-append_right xs ys h.0 h.1.0, h.1.1))

  named_cases : (xs ys : List Renewed) → IsNamed named (xs ++ ys) q x → IsNamed named xs q x ⊎ IsNamed named ys q x
  named_cases xs ys h = go (Contains-append_cases xs ys h.0 h.1.0)
    where
      go : Contains xs h.0 ⊎ Contains ys h.0 → IsNamed named xs q x ⊎ IsNamed named ys q x
      go (inl there) = inl (h.0, (there, h.1.1))
      go (inr there) = inr (h.0, (there, h.1.1))

  named_one : (r : Renewed) → SamePair (pair_of r.slot) x × Contains (named r) q → IsNamed named (r ∷ []) q x
  named_one r h = (r, (contains_head r [], h))

  one_named : (r : Renewed) → IsNamed named (r ∷ []) q x → SamePair (pair_of r.slot) x × Contains (named r) q
  one_named r h = go (contains_cases r h.0 [] h.1.0)
    where
      go : (r ≡ h.0) ⊎ Contains [] h.0 → SamePair (pair_of r.slot) x × Contains (named r) q
      go (inl e) = subst (λ (y : Renewed). SamePair (pair_of y.slot) x × Contains (named y) q) (sym e) h.1.1
      go (inr none) = absurd (none_in h.0 none)

  named_taken : (xs : List Renewed) (k : ℕ) → IsNamed named (take k xs) q x → IsNamed named xs q x
  named_taken xs k h = (h.0, (taken_in xs k h.0 h.1.0, h.1.1))

module _ (named : Renewed → List Question) where
  -- nothing, and one more
  pub adds_none : (readers : Question → Waiting) → AddsNamed named [] readers readers
  adds_none readers q x = (λ h. inl h, λ h. back h)
    where
      back : Contains (readers q) x ⊎ IsNamed named [] q x → Contains (readers q) x
      back (inl h) = h
      back (inr h) = absurd (none_named named q x h)

  adds_more : (xs : List Renewed) (r : Renewed) (old mid new : Index) → AddsNamed named xs (readers_in old) (readers_in mid) → AddsReads (named r) r.slot.attr r.slot.inst mid new → AddsNamed named (xs ++ r ∷ []) (readers_in old) (readers_in new)
  adds_more xs r old mid new f g q x = (λ h. out ((g q x).0 h), λ h. into h)
    where
      first : Contains (readers_in old q) x ⊎ IsNamed named xs q x → Contains (readers_in old q) x ⊎ IsNamed named (xs ++ r ∷ []) q x
      first (inl h) = inl h
      first (inr h) = inr (named_left named q x xs (r ∷ []) h)

      out : Contains (readers_in mid q) x ⊎ (SamePair (pair_of r.slot) x × Contains (named r) q) → Contains (readers_in old q) x ⊎ IsNamed named (xs ++ r ∷ []) q x
      out (inl h) = first ((f q x).0 h)
      out (inr h) = inr (named_right named q x xs (r ∷ []) (named_one named q x r h))

      either : IsNamed named xs q x ⊎ IsNamed named (r ∷ []) q x → Contains (readers_in new q) x
      either (inl h) = (g q x).1 (inl ((f q x).1 (inr h)))
      either (inr h) = (g q x).1 (inr (one_named named q x r h))

      into : Contains (readers_in old q) x ⊎ IsNamed named (xs ++ r ∷ []) q x → Contains (readers_in new q) x
      into (inl h) = (g q x).1 (inl ((f q x).1 (inl h)))
      into (inr h) = either (named_cases named q x xs (r ∷ []) h)

  pub adds_next : (xs : List Renewed) (k : ℕ) (r : Renewed) (qs : List Question) (old mid new : Index) → k < length xs → r ≡ get_or xs k r → qs ≡ named r → AddsNamed named (take k xs) (readers_in old) (readers_in mid) → AddsReads qs r.slot.attr r.slot.inst mid new
      → AddsNamed named (take (k + 1) xs) (readers_in old) (readers_in new)
  adds_next xs k r qs old mid new lt is are f g =
      subst (λ (ys : List Renewed). AddsNamed named ys (readers_in old) (readers_in new)) (sym (take_more xs k r lt ∙ ap (λ z. take k xs ++ z ∷ []) (sym is)))
      (adds_more (take k xs) r old mid new f (subst (λ (ys : List Question). AddsReads ys r.slot.attr r.slot.inst mid new) are g))

  pub takes_none : (readers : Question → Waiting) → TakesNamed named [] readers readers
  takes_none readers q x = (λ h. (h, none_named named q x), λ h. h.0)

  takes_more : (xs : List Renewed) (r : Renewed) (old mid new : Index) → TakesNamed named xs (readers_in old) (readers_in mid) → TakesReads (named r) r.slot.attr r.slot.inst mid new → TakesNamed named (xs ++ r ∷ []) (readers_in old) (readers_in new)
  takes_more xs r old mid new f g q x = (λ h. out ((g q x).0 h), λ h. into h)
    where
      neither : (IsNamed named xs q x → ⊥) → (SamePair (pair_of r.slot) x × Contains (named r) q → ⊥) → IsNamed named xs q x ⊎ IsNamed named (r ∷ []) q x → ⊥
      neither a b (inl h) = a h
      neither a b (inr h) = b (one_named named q x r h)

      out : Contains (readers_in mid q) x × (SamePair (pair_of r.slot) x × Contains (named r) q → ⊥) → Contains (readers_in old q) x × (IsNamed named (xs ++ r ∷ []) q x → ⊥)
      out two = let one = (f q x).0 two.0 in (one.0, λ h. neither one.1 two.1 (named_cases named q x xs (r ∷ []) h))

      into : Contains (readers_in old q) x × (IsNamed named (xs ++ r ∷ []) q x → ⊥) → Contains (readers_in new q) x
      into h = (g q x).1 ((f q x).1 (h.0, λ p. h.1 (named_left named q x xs (r ∷ []) p)), λ p. h.1 (named_right named q x xs (r ∷ []) (named_one named q x r p)))

  pub takes_next : (xs : List Renewed) (k : ℕ) (r : Renewed) (qs : List Question) (old mid new : Index) → k < length xs → r ≡ get_or xs k r → qs ≡ named r → TakesNamed named (take k xs) (readers_in old) (readers_in mid) → TakesReads qs r.slot.attr r.slot.inst mid new
      → TakesNamed named (take (k + 1) xs) (readers_in old) (readers_in new)
  takes_next xs k r qs old mid new lt is are f g =
      subst (λ (ys : List Renewed). TakesNamed named ys (readers_in old) (readers_in new)) (sym (take_more xs k r lt ∙ ap (λ z. take k xs ++ z ∷ []) (sym is)))
      (takes_more (take k xs) r old mid new f (subst (λ (ys : List Question). TakesReads ys r.slot.attr r.slot.inst mid new) are g))

-- where there is no memory for all that one slot reads besides
pub adds_some : (xs : List Renewed) (k : ℕ) (r : Renewed) (qs : List Question) (old mid new : Index) → k < length xs → r ≡ get_or xs k r → qs ≡ r.more → AddsMore (take k xs) (readers_in old) (readers_in mid) → AddsSomeReads qs r.slot.attr r.slot.inst mid new
    → AddsSomeMore xs (readers_in old) (readers_in new)
adds_some xs k r qs old mid new lt is are f g q x = (λ h. (g q x).0 ((f q x).1 (inl h)), λ h. out ((g q x).1 h))
  where
    first : Contains (readers_in old q) x ⊎ IsMore (take k xs) q x → Contains (readers_in old q) x ⊎ IsMore xs q x
    first (inl h) = inl h
    first (inr h) = inr (named_taken (λ r. r.more) q x xs k h)

    there : Contains xs r
    there = taken_in xs (k + 1) r (subst (λ (ys : List Renewed). Contains ys r) (sym (take_more xs k r lt ∙ ap (λ z. take k xs ++ z ∷ []) (sym is))) (Contains-append_right (take k xs) (r ∷ []) r (contains_head r [])))

    out : Contains (readers_in mid q) x ⊎ (SamePair (r.slot.attr, r.slot.inst) x × Contains qs q) → Contains (readers_in old q) x ⊎ IsMore xs q x
    out (inl h) = first ((f q x).0 h)
    out (inr h) = inr (r, (there, (h.0, subst (λ (ys : List Question). Contains ys q) are h.1)))

-- what was added in part, or whole, is taken back
pub some_back : (n : Renewal) (old mid new : Question → Waiting) → AreApart n old → AddsSomeMore n.slots old mid → TakesMore n.slots mid new → SameReaders old new
some_back n old mid new apart f g q x = (λ h. let two = (g q x).0 h in out two.1 ((f q x).1 two.0), λ h. (g q x).1 ((f q x).0 h, λ more. apart q x more h))
  where
    out : (IsMore n.slots q x → ⊥) → Contains (old q) x ⊎ IsMore n.slots q x → Contains (old q) x
    out none (inl h) = h
    out none (inr h) = absurd (none h)

pub all_back : (n : Renewal) (mid new : Question → Waiting) → TakesMore n.slots mid new → TakesBack n mid new
all_back n mid new takes before added = some_back n before mid new added.apart (λ q x. (λ h. (added.all q x).1 (inl h), (added.all q x).0)) takes

pub lost_out : (n : Renewal) (mid new : Question → Waiting) → TakesLost n.slots mid new → TakesOut n mid new
lost_out n mid new takes s before is added = is.exact mid new added.all takes

pub same_are_readers : SameAreReaders
same_are_readers r c old new same are = record {
  slots = λ q a i there. are.slots q a i ((same q (a, i)).0 there);
  read = λ q a i there. are.read q a i ((same q (a, i)).0 there);
  all = λ q a i slot reads. (same q (a, i)).1 (are.all q a i slot reads);
}
