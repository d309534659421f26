-- Changes of the slots that may differ are all changes.
use Rattle.std.proofs.Common.{◌≡◌, ◌⊎◌, inl, inr, Bool, true, false, cond, List, [], ◌∷◌, ◌++◌, map, filter, flat_map, length, Option, None, Some, is_some, Contains, refl, sym, ◌∙◌, ap, ap₂, subst}
use Rattle.std.specs.Prelude.{filter_map}
use Rattle.std.specs.List.{cons_option}
use Rattle.std.proofs.lemmas.List.Elements.{filter_map-append}
use Rattle.opa_model.specs.declared.ids.AttrId.{AttrId}
use Rattle.opa_cells.specs.declared.instance.InstanceId.{InstanceId}
use Rattle.opa_case.specs.Cases.{CaseView}
use Rattle.opa_case.specs.Shapes.{shape_of}
use Rattle.opa_mean.specs.Reached.Slots.{pairs_of}
use Rattle.opa_mean.specs.declared.reached.slot.Slot.{Slot}
use Rattle.opa_tree.specs.declared.rulebase.Rulebase.{Rulebase}
use Rattle.opa_tree.proofs.Members.{none_in, contains_head, contains_tail, contains_cases, flat_in, flat_out}
use Rattle.opa_mean.specs.Changes.{Changed, change_of, changes, ruled, slots}
use Rattle.opa_mean.specs.Given.{base_of, facts_of}
use Rattle.opa_mean.specs.Places.{is_of, owner_of}
use Rattle.opa_mean.specs.Rulebases.{IsOf}
use Rattle.opa_mean.specs.Slots.{is_slot}
use Rattle.opa_mean.proofs.Everywhere.{in_map}
use Rattle.opa_mean.proofs.Filtered.{Ordered, filter_out, map_out, filter_map_none, ordered_filter, ordered_map, ordered_weaker}
use Rattle.opa_mean.proofs.SlotsAre.{slots_are_live, instances_differ}
use Rattle.opa_session.specs.Telling.Among.{HaveChanges, ByRank, AreTold, Marks, is_marked, AreMarked, marked_among, AreChosen}
use Rattle.opa_session.specs.Telling.Walking.{with_listed}
use Rattle.opa_session.specs.Telling.Wanted.{AreAmong}
use Rattle.opa_session.specs.declared.telling.told_attrs.ToldAttrs.{ToldAttrs}
use Rattle.opa_session.proofs.telling.Rising.{ruled_rises, never_itself, never_both, in_order}
use Rattle.opa_session.proofs.telling.Walked.{listed_wanted}

-- ---- lists

-- what is left out gives nothing
pub flat_skips : {X Y : Type 0} (R : X → X → Type 0) → ((x : X) → R x x → ⊥) → ((x y : X) → R x y → R y x → ⊥) → (g : X → List Y) (xs ys : List X) → Ordered R xs → Ordered R ys → ((y : X) → Contains ys y → Contains xs y) → ((x : X) → Contains xs x → (Contains ys x → ⊥) → g x ≡ [])
    → flat_map g xs ≡ flat_map g ys
flat_skips R irr asym g [] [] ox oy sub none = refl
flat_skips R irr asym g [] (y ∷ ys) ox oy sub none = absurd (none_in y (sub y (contains_head y ys)))
flat_skips R irr asym g (x ∷ xs) [] ox oy sub none =
    ap (λ zs. zs ++ flat_map g xs) (none x (contains_head x xs) (none_in x)) ∙ flat_skips R irr asym g xs [] ox.1 oy (λ y h. absurd (none_in y h)) (λ z h. none z (contains_tail x z xs h))
flat_skips {X} {Y} R irr asym g (x ∷ xs) (y ∷ ys) ox oy sub none = go (contains_cases x y xs (sub y (contains_head y ys))) (flat_skips R irr asym g xs ys ox.1 oy.1) (flat_skips R irr asym g xs (y ∷ ys) ox.1 oy)
  where
    -- both begin with one
    same_first : (x ≡ y) → (((z : X) → Contains ys z → Contains xs z) → ((z : X) → Contains xs z → (Contains ys z → ⊥) → g z ≡ []) → flat_map g xs ≡ flat_map g ys) → g x ++ flat_map g xs ≡ g y ++ flat_map g ys
    same_first e rec = ap (λ z. g z ++ flat_map g xs) e ∙ ap (λ zs. g y ++ zs) (rec (λ z h. within z h (contains_cases x z xs (sub z (contains_tail y z ys h)))) (λ z h not. none z (contains_tail x z xs h) (λ k. outside z h not (contains_cases y z ys k))))
      where
        within : (z : X) → Contains ys z → (x ≡ z) ⊎ Contains xs z → Contains xs z
        within z h (inl k) = absurd (irr z (subst (λ w. R w z) (sym e ∙ k) (oy.0 z h)))
        within z h (inr k) = k

        outside : (z : X) → Contains xs z → (Contains ys z → ⊥) → (y ≡ z) ⊎ Contains ys z → ⊥
        outside z h not (inl k) = irr z (subst (λ w. R w z) (e ∙ k) (ox.0 z h))
        outside z h not (inr k) = not k

    -- the first is left out
    left_out : Contains xs y → (((z : X) → Contains (y ∷ ys) z → Contains xs z) → ((z : X) → Contains xs z → (Contains (y ∷ ys) z → ⊥) → g z ≡ []) → flat_map g xs ≡ flat_map g (y ∷ ys)) → g x ++ flat_map g xs ≡ flat_map g (y ∷ ys)
    left_out there rec = ap (λ zs. zs ++ flat_map g xs) (none x (contains_head x xs) gone) ∙ rec (λ z h. within z h (contains_cases x z xs (sub z h))) (λ z h. none z (contains_tail x z xs h))
      where
        at : (y ≡ x) ⊎ Contains ys x → ⊥
        at (inl k) = irr x (subst (λ w. R x w) k (ox.0 y there))
        at (inr k) = asym x y (ox.0 y there) (oy.0 x k)

        gone : Contains (y ∷ ys) x → ⊥
        gone h = at (contains_cases y x ys h)

        within : (z : X) → Contains (y ∷ ys) z → (x ≡ z) ⊎ Contains xs z → Contains xs z
        within z h (inl k) = absurd (gone (subst (λ w. Contains (y ∷ ys) w) (sym k) h))
        within z h (inr k) = k

    go : (x ≡ y) ⊎ Contains xs y → (((z : X) → Contains ys z → Contains xs z) → ((z : X) → Contains xs z → (Contains ys z → ⊥) → g z ≡ []) → flat_map g xs ≡ flat_map g ys)
        → (((z : X) → Contains (y ∷ ys) z → Contains xs z) → ((z : X) → Contains xs z → (Contains (y ∷ ys) z → ⊥) → g z ≡ []) → flat_map g xs ≡ flat_map g (y ∷ ys)) → g x ++ flat_map g xs ≡ flat_map g (y ∷ ys)
    go (inl e) rec _ = same_first e rec
    go (inr there) _ rec = left_out there rec

filter_kept : {X Y : Type 0} (p : X → Bool) (f : X → Option Y) (xs : List X) → ((x : X) → Contains xs x → p x ≡ false → f x ≡ None) → filter_map f (filter p xs) ≡ filter_map f xs
filter_kept p f [] none = refl
filter_kept p f (x ∷ xs) none = go (p x) refl (filter_kept p f xs (λ y h. none y (contains_tail x y xs h)))
  where
    go : (t : Bool) → p x ≡ t → filter_map f (filter p xs) ≡ filter_map f xs → filter_map f (cond t (x ∷ filter p xs) (filter p xs)) ≡ cons_option (f x) (filter_map f xs)
    go true e rec = ap (cons_option (f x)) rec
    go false e rec = rec ∙ sym (ap (λ o. cons_option o (filter_map f xs)) (none x (contains_head x xs) e))

filter_map_flat : {X Y Z : Type 0} (f : Y → Option Z) (u : X → List Y) (xs : List X) → filter_map f (flat_map u xs) ≡ flat_map (λ x. filter_map f (u x)) xs
filter_map_flat f u [] = refl
filter_map_flat f u (x ∷ xs) = filter_map-append f (u x) (flat_map u xs) ∙ ap (λ zs. filter_map f (u x) ++ zs) (filter_map_flat f u xs)

flat_agrees : {X Y : Type 0} (u v : X → List Y) (xs : List X) → ((x : X) → Contains xs x → u x ≡ v x) → flat_map u xs ≡ flat_map v xs
flat_agrees u v [] h = refl
flat_agrees u v (x ∷ xs) h = ap₂ (λ ys zs. ys ++ zs) (h x (contains_head x xs)) (flat_agrees u v xs (λ y k. h y (contains_tail x y xs k)))

abbrev Differ : {X : Type 0} → X → X → Type 0
Differ x y = x ≡ y → ⊥

one_only : {X Y : Type 0} (f : X → Option Y) (xs : List X) (s : X) → Ordered Differ xs → Contains xs s → ((x : X) → Contains xs x → (x ≡ s → ⊥) → f x ≡ None) → filter_map f xs ≡ cons_option (f s) []
one_only f [] s o there none = absurd (none_in s there)
one_only f (y ∷ xs) s o there none = go (contains_cases y s xs there) (one_only f xs s o.1)
  where
    go : (y ≡ s) ⊎ Contains xs s → (Contains xs s → ((x : _) → Contains xs x → (x ≡ s → ⊥) → f x ≡ None) → filter_map f xs ≡ cons_option (f s) []) → cons_option (f y) (filter_map f xs) ≡ cons_option (f s) []
    go (inl e) rec = ap (cons_option (f y)) (filter_map_none f xs (λ x h. none x (contains_tail y x xs h) (λ k. o.0 x h (e ∙ sym k)))) ∙ ap (λ z. cons_option (f z) []) e
    go (inr k) rec = ap (λ q. cons_option q (filter_map f xs)) (none y (contains_head y xs) (λ e. o.0 s k e)) ∙ rec k (λ x h. none x (contains_tail y x xs h))

-- slots that have attributes of their own
own_attr : (R : AttrId → AttrId → Type 0) → ((x : AttrId) → R x x → ⊥) → (slots : List Slot) → Ordered R (map (λ (s : Slot). s.attr) slots) → (s t : Slot) → Contains slots s → Contains slots t → s.attr ≡ t.attr → s ≡ t
own_attr R irr [] o s t hs ht e = absurd (none_in s hs)
own_attr R irr (x ∷ slots) o s t hs ht e = go (contains_cases x s slots hs) (contains_cases x t slots ht) (own_attr R irr slots o.1 s t)
  where
    first : (y : Slot) → Contains slots y → R x.attr y.attr
    first y h = o.0 y.attr (in_map (λ (s : Slot). s.attr) slots y h)

    go : (x ≡ s) ⊎ Contains slots s → (x ≡ t) ⊎ Contains slots t → (Contains slots s → Contains slots t → s.attr ≡ t.attr → s ≡ t) → s ≡ t
    go (inl k) (inl l) rec = sym k ∙ l
    go (inl k) (inr l) rec = absurd (irr t.attr (subst (λ a. R a t.attr) (ap (λ (z : Slot). z.attr) k ∙ e) (first t l)))
    go (inr k) (inl l) rec = absurd (irr s.attr (subst (λ a. R a s.attr) (ap (λ (z : Slot). z.attr) l ∙ sym e) (first s k)))
    go (inr k) (inr l) rec = rec k l e

-- ---- slots

module _ (r : Rulebase) (c c' : CaseView) (is' : IsOf r c') (ss : List Slot) (have : HaveChanges r c c' (pairs_of ss)) (told : ToldAttrs) (are : AreTold (base_of r) ss told) where
  abbrev with_each : AttrId → List (AttrId × InstanceId)
  with_each a = map (λ i. (a, i)) (filter (is_of (owner_of (shape_of r.model) a)) (facts_of c').instances)

  abbrev change : AttrId × InstanceId → Option Changed
  change s = change_of (base_of r) (facts_of c) (facts_of c') s.0 s.1

  abbrev each : AttrId → List Changed
  each a = filter_map change (with_each a)

  of_attr : (a : AttrId) (x : AttrId × InstanceId) → Contains (with_each a) x → a ≡ x.0
  of_attr a x h = let m = map_out (λ i. (a, i)) (filter (is_of (owner_of (shape_of r.model) a)) (facts_of c').instances) x h in ap (λ (y : AttrId × InstanceId). y.0) m.1.1

  -- each attribute of these has a rule
  attr_ruled : (a : AttrId) → Contains told.attrs a → Contains (ruled (base_of r)) a
  attr_ruled a h =
      let s = are.only a h in
      let slot = (slots_are_live r c' is' s.0.attr s.0.inst).1 (have.live s.0.attr s.0.inst (in_map (λ (t : Slot). (t.attr, t.inst)) ss s.0 s.1.0)) in
      let y = flat_out with_each (ruled (base_of r)) (s.0.attr, s.0.inst) slot in
      subst (λ (z : AttrId). Contains (ruled (base_of r)) z) (of_attr y.0 (s.0.attr, s.0.inst) y.1.1 ∙ s.1.1) y.1.0

  is_live_slot : (a : AttrId) (x : AttrId × InstanceId) → Contains (ruled (base_of r)) a → Contains (with_each a) x → is_slot r c' x.0 x.1 ≡ true
  is_live_slot a x h k = (slots_are_live r c' is' x.0 x.1).0 (flat_in with_each (ruled (base_of r)) a x h k)

  -- a slot that isn't handed in has no change
  unchanged : (x : AttrId × InstanceId) → is_slot r c' x.0 x.1 ≡ true → (Contains (pairs_of ss) x → ⊥) → change x ≡ None
  unchanged x slot not = go (change x) refl
    where
      go : (o : Option Changed) → change x ≡ o → change x ≡ None
      go None e = e
      go (Some y) e = absurd (not (have.all x.0 x.1 slot (ap is_some e)))

  handed : (x : AttrId × InstanceId) → Contains (pairs_of ss) x → (s : Slot) × (Contains ss s × ((let p : AttrId × InstanceId = (s.attr, s.inst) in p) ≡ x))
  handed x h = map_out (λ (t : Slot). (t.attr, t.inst)) ss x h

  none_told : (a : AttrId) → Contains (ruled (base_of r)) a → (Contains told.attrs a → ⊥) → each a ≡ []
  none_told a ruled_too not = filter_map_none change (with_each a) (λ x h. unchanged x (is_live_slot a x ruled_too h) (λ k.
      let s = handed x k in not (subst (λ (z : AttrId). Contains told.attrs z) (ap (λ (p : AttrId × InstanceId). p.0) s.1.1 ∙ sym (of_attr a x h)) (are.each s.0 s.1.0))))

  by_attrs : changes (base_of r) (facts_of c) (facts_of c') ≡ flat_map each told.attrs
  by_attrs =
      filter_map_flat change with_each (ruled (base_of r))
      ∙ flat_skips (ByRank (base_of r)) (never_itself (base_of r)) (never_both (base_of r)) each (ruled (base_of r)) told.attrs (ruled_rises (base_of r)) (in_order (ByRank (base_of r)) told.attrs are.ordered) attr_ruled none_told

  -- those that are marked, of what is wanted
  module _ (live : List (List InstanceId)) (w : InstanceId → Bool) (lists : AreAmong (length r.model.entities) c'.live w live) (here : (s : Slot) → Contains ss s → w s.inst ≡ true) (m : Marks) (marked : AreMarked ss m) where
    not_both : (x : AttrId × InstanceId) → is_marked m x ≡ false → Contains (pairs_of ss) x → ⊥
    not_both x off h = let s = handed x h in cc (off, subst (λ (p : AttrId × InstanceId). is_marked m p ≡ true) s.1.1 (marked s.0 s.1.0))

    not_wanted : (x : AttrId × InstanceId) → w x.1 ≡ false → Contains (pairs_of ss) x → ⊥
    not_wanted x off h = let s = handed x h in cc (off, subst (λ (p : AttrId × InstanceId). w p.1 ≡ true) s.1.1 (here s.0 s.1.0))

    abbrev wanted_with : AttrId → List (AttrId × InstanceId)
    wanted_with a = filter (λ x. w x.1) (with_each a)

    listed : (a : AttrId) → with_listed (shape_of r.model) live a ≡ wanted_with a
    listed a = listed_wanted r c' is' live w lists a

    abbrev marked_with : AttrId → List (AttrId × InstanceId)
    marked_with a = filter (is_marked m) (with_listed (shape_of r.model) live a)

    pub chosen_by_marks : AreChosen r c c' (marked_among (shape_of r.model) live m told.attrs)
    chosen_by_marks = record {
      live = record { each = λ a i h. alive (a, i) h };
      same = filter_map_flat change marked_with told.attrs ∙ flat_agrees _ each told.attrs same ∙ sym by_attrs;
    }
      where
        alive : (x : AttrId × InstanceId) → Contains (marked_among (shape_of r.model) live m told.attrs) x → is_slot r c' x.0 x.1 ≡ true
        alive x h =
            let y = flat_out marked_with told.attrs x h in
            let k = filter_out (is_marked m) (with_listed (shape_of r.model) live y.0) x y.1.1 in
            let l = filter_out (λ x. w x.1) (with_each y.0) x (subst (λ (xs : List (AttrId × InstanceId)). Contains xs x) (listed y.0) k.0) in
            is_live_slot y.0 x (attr_ruled y.0 y.1.0) l.0

        same : (a : AttrId) → Contains told.attrs a → filter_map change (marked_with a) ≡ each a
        same a h =
            ap (λ (xs : List (AttrId × InstanceId)). filter_map change (filter (is_marked m) xs)) (listed a)
            ∙ filter_kept (is_marked m) change (wanted_with a) (λ x k off. unchanged x (is_live_slot a x (attr_ruled a h) (filter_out (λ x. w x.1) (with_each a) x k).0) (not_both x off))
            ∙ filter_kept (λ x. w x.1) change (with_each a) (λ x k off. unchanged x (is_live_slot a x (attr_ruled a h) k) (not_wanted x off))

  -- those that are handed in, where each has an attribute of its own
  module _ (own : told.single ≡ true) where
    alone : Ordered (ByRank (base_of r)) (map (λ (s : Slot). s.attr) ss)
    alone = subst (λ (attrs' : List AttrId). Ordered (ByRank (base_of r)) attrs') (are.own own) (in_order (ByRank (base_of r)) told.attrs are.ordered)

    apart : (a : AttrId) → Ordered Differ (with_each a)
    apart a = ordered_map Differ (λ i. (a, i)) (filter (is_of (owner_of (shape_of r.model) a)) (facts_of c').instances)
        (ordered_weaker Differ (λ i j. Differ (let p : AttrId × InstanceId = (a, i) in p) (let p : AttrId × InstanceId = (a, j) in p)) (filter (is_of (owner_of (shape_of r.model) a)) (facts_of c').instances) (λ i j _ _ d e. d (ap (λ (p : AttrId × InstanceId). p.1) e))
        (ordered_filter Differ (is_of (owner_of (shape_of r.model) a)) (facts_of c').instances (instances_differ r c' is')))

    one_slot : (s : Slot) → Contains ss s → each s.attr ≡ cons_option (change (s.attr, s.inst)) []
    one_slot s h = one_only change (with_each s.attr) (s.attr, s.inst) (apart s.attr) there none
      where
        live_slot : is_slot r c' s.attr s.inst ≡ true
        live_slot = have.live s.attr s.inst (in_map (λ (t : Slot). (t.attr, t.inst)) ss s h)

        there : Contains (with_each s.attr) (s.attr, s.inst)
        there =
            let y = flat_out with_each (ruled (base_of r)) (s.attr, s.inst) ((slots_are_live r c' is' s.attr s.inst).1 live_slot) in
            subst (λ (a : AttrId). Contains (with_each a) (s.attr, s.inst)) (of_attr y.0 (s.attr, s.inst) y.1.1) y.1.1

        none : (x : AttrId × InstanceId) → Contains (with_each s.attr) x → (x ≡ (let p : AttrId × InstanceId = (s.attr, s.inst) in p) → ⊥) → change x ≡ None
        none x k not = unchanged x (is_live_slot s.attr x (attr_ruled s.attr (are.each s h)) k) (λ l.
            let t = handed x l in
            let e : s ≡ t.0 = own_attr (ByRank (base_of r)) (never_itself (base_of r)) ss alone s t.0 h t.1.0 (of_attr s.attr x k ∙ sym (ap (λ (p : AttrId × InstanceId). p.0) t.1.1)) in
            not (sym t.1.1 ∙ ap (λ (z : Slot). let p : AttrId × InstanceId = (z.attr, z.inst) in p) (sym e)))

    one_by_one : (ts : List Slot) → ((s : Slot) → Contains ts s → each s.attr ≡ cons_option (change (s.attr, s.inst)) []) → flat_map each (map (λ (s : Slot). s.attr) ts) ≡ filter_map change (pairs_of ts)
    one_by_one [] h = refl
    one_by_one (t ∷ ts) h = ap₂ (λ ys zs. ys ++ zs) (h t (contains_head t ts)) (one_by_one ts (λ s k. h s (contains_tail t s ts k))) ∙ joined (change (t.attr, t.inst)) (filter_map change (pairs_of ts))
      where
        joined : (o : Option Changed) (zs : List Changed) → cons_option o [] ++ zs ≡ cons_option o zs
        joined None zs = refl
        joined (Some y) zs = refl

    pub chosen_alone : AreChosen r c c' (pairs_of ss)
    chosen_alone = record {
      live = record { each = have.live };
      same = sym (by_attrs ∙ ap (flat_map each) (are.own own) ∙ one_by_one ss one_slot);
    }
