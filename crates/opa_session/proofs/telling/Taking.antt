-- The attributes of slots, one slot after another.
use Rattle.std.proofs.Common.{◌≡◌, ◌⊎◌, inl, inr, ℕ, ◌+◌, ◌<◌, Bool, true, false, cond, List, [], ◌∷◌, ◌++◌, length, get_or, take, map, None, Some, is_some, Contains, refl, sym, ◌∙◌, ap, subst}
use Rattle.std.specs.FinMap.{get, insert, get-insert}
use Rattle.std.specs.Ordering.{eq_by_cmp}
use Rattle.std.specs.Cmp.{eq_by_cmp_equiv}
use Rattle.std.proofs.lemmas.List.{map-append, take_more}
use Rattle.std.proofs.lemmas.List.Elements.{Contains-append_left, Contains-append_right, Contains-append_cases}
use Rattle.opa_model.specs.declared.ids.AttrId.{AttrId}
use Rattle.opa_cells.specs.Keys.{cell_cmp}
use Rattle.opa_cells.specs.declared.instance.InstanceId.{InstanceId}
use Rattle.opa_cells.proofs.Orders.{cell_total}
use Rattle.opa_mean.specs.declared.reached.slot.Slot.{Slot}
use Rattle.opa_mean.specs.Mean.{Base}
use Rattle.opa_mean.proofs.Filtered.{ordered_append}
use Rattle.opa_tree.proofs.Members.{none_in, contains_head, contains_cases}
use Rattle.opa_session.specs.Telling.Among.{ByRank, InOrder, Behind, AreTold, Marks, AreMarked}
use Rattle.opa_session.specs.declared.telling.told_attrs.ToldAttrs.{ToldAttrs}
use Rattle.opa_session.proofs.telling.Rising.{before_later, in_order, in_order_back}

pub only_one : {X : Type 0} (x y : X) → Contains (x ∷ []) y → x ≡ y
only_one x y h = go (contains_cases x y [] h)
  where
    go : (x ≡ y) ⊎ Contains [] y → x ≡ y
    go (inl e) = e
    go (inr none) = absurd (none_in y none)

module _ (b : Base) where
  pub told_start : (told : ToldAttrs) → told.attrs ≡ [] → told.single ≡ true → told.last ≡ None → AreTold b [] told
  told_start told none single last = record {
    ordered = subst (λ (attrs' : List AttrId). InOrder (ByRank b) attrs') (sym none) tt;
    each = λ s h. absurd (none_in s h);
    only = λ a h. absurd (none_in a (subst (λ attrs'. Contains attrs' a) none h));
    here = λ a e. absurd (cc (e, last));
    top = λ z h x k. absurd (none_in x (subst (λ attrs'. Contains attrs' x) none k));
    own = λ _. none;
  }

  module _ (slots : List Slot) (s : Slot) (old new : ToldAttrs) (a : AttrId) (same : s.attr ≡ a) (are : AreTold b slots old) where
    -- the attribute is the last one already
    pub told_again : old.last ≡ Some a → new.attrs ≡ old.attrs → new.last ≡ old.last → new.single ≡ false → AreTold b (slots ++ s ∷ []) new
    told_again there attrs last single = record {
      ordered = subst (λ (attrs' : List AttrId). InOrder (ByRank b) attrs') (sym attrs) are.ordered;
      each = λ t h. subst (λ attrs'. Contains attrs' t.attr) (sym attrs) (each t (Contains-append_cases slots (s ∷ []) t h));
      only = λ x h. let t = are.only x (subst (λ attrs'. Contains attrs' x) attrs h) in (t.0, (Contains-append_left slots (s ∷ []) t.0 t.1.0, t.1.1));
      here = λ x e. subst (λ attrs'. Contains attrs' x) (sym attrs) (are.here x (sym last ∙ e));
      top = λ z h x k. are.top z (subst (λ o. Behind b o z) last h) x (subst (λ attrs'. Contains attrs' x) attrs k);
      own = λ e. absurd (cc (e, single));
    }
      where
        each : (t : Slot) → Contains slots t ⊎ Contains (s ∷ []) t → Contains old.attrs t.attr
        each t (inl h) = are.each t h
        each t (inr h) = subst (λ x. Contains old.attrs x) (sym same ∙ ap (λ (z : Slot). z.attr) (only_one s t h)) (are.here a there)

    -- the attribute comes behind the others
    pub told_more : Behind b old.last a → new.attrs ≡ old.attrs ++ a ∷ [] → new.last ≡ Some a → new.single ≡ old.single → AreTold b (slots ++ s ∷ []) new
    told_more behind attrs last single = record {
      ordered = subst (λ (attrs' : List AttrId). InOrder (ByRank b) attrs') (sym attrs) (in_order_back (ByRank b) (old.attrs ++ a ∷ [])
          (ordered_append (ByRank b) old.attrs (a ∷ []) (in_order (ByRank b) old.attrs are.ordered) (λ y h. absurd (none_in y h), tt) (λ x y h k. subst (λ z. ByRank b x z) (only_one a y k) (are.top a behind x h))));
      each = λ t h. subst (λ attrs'. Contains attrs' t.attr) (sym attrs) (each t (Contains-append_cases slots (s ∷ []) t h));
      only = λ x h. only x (Contains-append_cases old.attrs (a ∷ []) x (subst (λ attrs'. Contains attrs' x) attrs h));
      here = λ x e. let at : a ≡ x = cc (sym last ∙ e) in subst (λ attrs'. Contains attrs' x) (sym attrs) (Contains-append_right old.attrs (a ∷ []) x (subst (λ z. Contains (a ∷ []) z) at (contains_head a [])));
      top = λ z h x k. top z (subst (λ o. Behind b o z) last h) x (Contains-append_cases old.attrs (a ∷ []) x (subst (λ attrs'. Contains attrs' x) attrs k));
      own = λ e. attrs ∙ ap (λ attrs'. attrs' ++ a ∷ []) (are.own (sym single ∙ e)) ∙ ap (λ z. map (λ (t : Slot). t.attr) slots ++ z ∷ []) (sym same) ∙ sym (map-append (λ (t : Slot). t.attr) slots (s ∷ []));
    }
      where
        each : (t : Slot) → Contains slots t ⊎ Contains (s ∷ []) t → Contains (old.attrs ++ a ∷ []) t.attr
        each t (inl h) = Contains-append_left old.attrs (a ∷ []) t.attr (are.each t h)
        each t (inr h) = Contains-append_right old.attrs (a ∷ []) t.attr (subst (λ x. Contains (a ∷ []) x) (sym same ∙ ap (λ (z : Slot). z.attr) (only_one s t h)) (contains_head a []))

        only : (x : AttrId) → Contains old.attrs x ⊎ Contains (a ∷ []) x → (t : Slot) × (Contains (slots ++ s ∷ []) t × (t.attr ≡ x))
        only x (inl h) = let t = are.only x h in (t.0, (Contains-append_left slots (s ∷ []) t.0 t.1.0, t.1.1))
        only x (inr h) = (s, (Contains-append_right slots (s ∷ []) s (contains_head s []), same ∙ only_one a x h))

        top : (z : AttrId) → ByRank b a z → (x : AttrId) → Contains old.attrs x ⊎ Contains (a ∷ []) x → ByRank b x z
        top z h x (inl k) = before_later b x a z (are.top a behind x k) h
        top z h x (inr k) = subst (λ y. ByRank b y z) (only_one a x k) h

  -- one slot more
  pub told_next : (slots : List Slot) (k : ℕ) (s : Slot) (new : ToldAttrs) → k < length slots → s ≡ get_or slots k s → AreTold b (take k slots ++ s ∷ []) new → AreTold b (take (k + 1) slots) new
  told_next slots k s new lt is h = subst (λ xs. AreTold b xs new) (sym (take_more slots k s lt ∙ ap (λ z. take k slots ++ z ∷ []) (sym is))) h

-- ---- marks

pub marked_none : (m : Marks) → AreMarked [] m
marked_none m s h = absurd (none_in s h)

got : (m : Marks) (k j : ℕ × InstanceId) → get (insert m k true) j ≡ cond (eq_by_cmp cell_cmp j k) (Some true) (get m j)
got m k j = get-insert cell_total m k true j

pub marked_more : (slots : List Slot) (s : Slot) (m : Marks) → AreMarked slots m → AreMarked (slots ++ s ∷ []) (insert m (s.attr.0, s.inst) true)
marked_more slots s m are t h = ap is_some (got m (s.attr.0, s.inst) (t.attr.0, t.inst)) ∙ go (eq_by_cmp cell_cmp (t.attr.0, t.inst) (s.attr.0, s.inst)) refl (Contains-append_cases slots (s ∷ []) t h)
  where
    itself : s ≡ t → eq_by_cmp cell_cmp (t.attr.0, t.inst) (s.attr.0, s.inst) ≡ true
    itself e = ap (λ (z : Slot). eq_by_cmp cell_cmp (t.attr.0, t.inst) (z.attr.0, z.inst)) e ∙ (eq_by_cmp_equiv cell_total).refl (t.attr.0, t.inst)

    go : (x : Bool) → eq_by_cmp cell_cmp (t.attr.0, t.inst) (s.attr.0, s.inst) ≡ x → Contains slots t ⊎ Contains (s ∷ []) t → is_some (cond x (Some true) (get m (t.attr.0, t.inst))) ≡ true
    go true e there = refl
    go false e (inl k) = are t k
    go false e (inr k) = absurd (cc (e, itself (only_one s t k)))

pub marked_next : (slots : List Slot) (k : ℕ) (s : Slot) (m new : Marks) (i : InstanceId) → k < length slots → s ≡ get_or slots k s → AreMarked (take k slots) m → i ≡ s.inst → new ≡ insert m (s.attr.0, i) true → AreMarked (take (k + 1) slots) new
marked_next slots k s m new i lt is are ei put =
    subst (λ xs. AreMarked xs new) (sym (take_more slots k s lt ∙ ap (λ z. take k slots ++ z ∷ []) (sym is)))
    (subst (λ n. AreMarked (take k slots ++ s ∷ []) n) (sym (put ∙ ap (λ j. insert m (s.attr.0, j) true) ei)) (marked_more (take k slots) s m are))
