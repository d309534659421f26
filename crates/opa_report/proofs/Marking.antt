-- Instances that are marked, one after another.
use Rattle.std.proofs.Common.{◌≡◌, ◌⊎◌, ◌↔◌, inl, inr, ℕ, zero, suc, ◌+◌, ◌-◌, ◌<◌, Bool, true, false, cond, List, [], ◌∷◌, ◌++◌, take, length, get_or, Option, None, Some, Contains, is_some, refl, sym, ◌∙◌, ap, subst, arith}
use Rattle.std.specs.FinMap.{get, insert, empty, get-insert, get-empty}
use Rattle.std.specs.Option.{option_map_or}
use Rattle.std.specs.Ordering.{eq_by_cmp}
use Rattle.std.specs.Cmp.{eq_by_cmp_equiv}
use Rattle.std.proofs.lemmas.List.Elements.{Contains-append_left, Contains-append_right, Contains-append_cases}
use Rattle.std.proofs.lemmas.Map.Views.{tells_apart}
use Rattle.opa_model.specs.declared.ids.AttrId.{AttrId}
use Rattle.opa_model.specs.declared.ids.RelId.{RelId}
use Rattle.opa_cells.specs.Instances.{named}
use Rattle.opa_cells.specs.Keys.{cell_cmp}
use Rattle.opa_cells.specs.declared.instance.InstanceId.{InstanceId}
use Rattle.opa_cells.proofs.Orders.{cell_total, cell_exact}
use Rattle.opa_tree.proofs.Members.{none_in, contains_head, contains_tail, contains_cases}
use Rattle.opa_mean.specs.Mean.{Base, Facts}
use Rattle.opa_mean.specs.Places.{chain, climb}
use Rattle.opa_mean.specs.Reports.{InCone, members_of, own_of}
use Rattle.opa_mean.specs.Uses.{Use, Point, Listed}
use Rattle.opa_mean.proofs.Everywhere.{in_map}
use Rattle.opa_report.specs.declared.found.Found.{Found}
use Rattle.opa_report.specs.Finding.{has, Has}
use Rattle.opa_report.specs.Owning.{Marked, is_marked, Marks, HasDay, IsAbove, OwnsPoint, OwnsList, OwnsKey}
use Rattle.opa_report.specs.ReportLines.{slots, keys, IsOwned}
use Rattle.opa_report.specs.Reporting.{IsPlaced}
use Rattle.opa_report.specs.Walking.{IsCone}
use Rattle.opa_report.proofs.Firsts.{next_item}
use Rattle.opa_mean.proofs.Filtered.{map_out}

pub marks_none : (P : InstanceId → Type 0) (m : Marked) → ((j : InstanceId) → P j → ⊥) → Marks P m m
marks_none P m none = record { kept = λ j h. h; marked = λ j h. absurd (none j h); only = λ j h. inl h }

pub marks_same : (P Q : InstanceId → Type 0) (m n : Marked) → ((j : InstanceId) → P j → Q j) → ((j : InstanceId) → Q j → P j) → Marks P m n → Marks Q m n
marks_same P Q m n to back marks = record { kept = marks.kept; marked = λ j h. marks.marked j (back j h); only = λ j h. go j (marks.only j h) }
  where
    go : (j : InstanceId) → (is_marked m j ≡ true) ⊎ P j → (is_marked m j ≡ true) ⊎ Q j
    go j (inl h) = inl h
    go j (inr h) = inr (to j h)

pub marks_both : (P Q R : InstanceId → Type 0) (l m n : Marked) → ((j : InstanceId) → P j → R j) → ((j : InstanceId) → Q j → R j) → ((j : InstanceId) → R j → P j ⊎ Q j) → Marks P l m → Marks Q m n → Marks R l n
marks_both P Q R l m n one two back first second = record {
  kept = λ j h. second.kept j (first.kept j h);
  marked = λ j h. marked j (back j h);
  only = λ j h. only j (second.only j h);
}
  where
    marked : (j : InstanceId) → P j ⊎ Q j → is_marked n j ≡ true
    marked j (inl h) = second.kept j (first.marked j h)
    marked j (inr h) = second.marked j h

    early : (j : InstanceId) → (is_marked l j ≡ true) ⊎ P j → (is_marked l j ≡ true) ⊎ R j
    early j (inl h) = inl h
    early j (inr h) = inr (one j h)

    only : (j : InstanceId) → (is_marked m j ≡ true) ⊎ Q j → (is_marked l j ≡ true) ⊎ R j
    only j (inl h) = early j (first.only j h)
    only j (inr h) = inr (two j h)

pub marks_one : (i : InstanceId) (m n : Marked) → n ≡ insert m (0, i) true → Marks (λ j. i ≡ j) m n
marks_one i m n is = record { kept = λ j h. seen j ∙ kept (eq_by_cmp cell_cmp (0, j) (0, i)) (get m (0, j)) h; marked = λ j e. seen j ∙ own j e; only = λ j h. only j (eq_by_cmp cell_cmp (0, j) (0, i)) refl (sym (seen j) ∙ h) }
  where
    seen : (j : InstanceId) → is_marked n j ≡ is_some (cond (eq_by_cmp cell_cmp (0, j) (0, i)) (Some true) (get m (0, j)))
    seen j = let key : ℕ × InstanceId = (0, j) in ap (λ t. is_some (get t key)) is ∙ ap is_some (get-insert cell_total m (0, i) true key)

    kept : (t : Bool) (o : Option Bool) → is_some o ≡ true → is_some (cond t (Some true) o) ≡ true
    kept true o h = refl
    kept false o h = h

    own : (j : InstanceId) → i ≡ j → is_some (cond (eq_by_cmp cell_cmp (0, j) (0, i)) (Some true) (get m (0, j))) ≡ true
    own j e =
        let itself : eq_by_cmp cell_cmp (0, i) (0, i) ≡ true = (eq_by_cmp_equiv cell_total).refl (0, i) in
        ap (λ t. is_some (cond t (Some true) (get m (0, j)))) (subst (λ (k : InstanceId). eq_by_cmp cell_cmp (0, k) (0, i) ≡ true) e itself)

    only : (j : InstanceId) (t : Bool) → eq_by_cmp cell_cmp (0, j) (0, i) ≡ t → is_some (cond t (Some true) (get m (0, j))) ≡ true → (is_marked m j ≡ true) ⊎ (i ≡ j)
    only j false q h = inl h
    only j true q h = inr (sym (ap (λ (k : ℕ × InstanceId). k.1) (tells_apart cell_exact (0, j) (0, i) q)))

-- an instance and those of a list
pub marks_cons : (i : InstanceId) (xs : List InstanceId) (l m n : Marked) → Marks (λ j. i ≡ j) l m → Marks (λ j. Contains xs j) m n → Marks (λ j. Contains (i ∷ xs) j) l n
marks_cons i xs l m n = marks_both (λ j. i ≡ j) (λ j. Contains xs j) (λ j. Contains (i ∷ xs) j) l m n (λ j e. subst (Contains (i ∷ xs)) e (contains_head i xs)) (λ j h. contains_tail i j xs h) (λ j h. contains_cases i j xs h)

pub marks_single : (i : InstanceId) (m n : Marked) → Marks (λ j. i ≡ j) m n → Marks (λ j. Contains (i ∷ []) j) m n
marks_single i m n h = marks_cons i [] m n n h (marks_none (λ j. Contains [] j) n (λ j k. none_in j k))

module _ (up : InstanceId → Option InstanceId) where
  pub climb_zero : (n : ℕ) (i : InstanceId) → n ≡ 0 → i ∷ [] ≡ climb up n i
  climb_zero zero i e = refl
  climb_zero (suc n) i e = absurd (omega arith)

  pub climb_none : (n : ℕ) (i : InstanceId) → None ≡ up i → i ∷ [] ≡ climb up n i
  climb_none zero i e = refl
  climb_none (suc n) i e = ap (λ o. i ∷ option_map_or (climb up n) o []) e

  pub climb_some : (n : ℕ) (i a : InstanceId) → 0 < n → Some a ≡ up i → i ∷ climb up (n - 1) a ≡ climb up n i
  climb_some zero i a lt e = absurd (omega arith)
  climb_some (suc n) i a lt e = let same : suc n - 1 ≡ n = omega arith in ap (λ k. i ∷ climb up k a) same ∙ ap (λ o. i ∷ option_map_or (climb up n) o []) e

-- names
pub names_next : (up : InstanceId → List InstanceId) (t : ℕ) (names : List (List ℕ)) (k : ℕ) (n : List ℕ) (l m o : Marked) → k < length names → n ≡ get_or names k n → Marks (IsAbove up t (take k names)) l m → Marks (λ j. Contains (up (named t n)) j) m o → Marks (IsAbove up t (take (k + 1) names)) l o
names_next up t names k n l m o lt is before here =
    subst (λ ns. Marks (IsAbove up t ns) l o) (sym (next_item names k n lt is))
    (marks_both (IsAbove up t (take k names)) (λ j. Contains (up (named t n)) j) (IsAbove up t (take k names ++ n ∷ [])) l m o
    (λ j a. record { name = a.name; there = Contains-append_left (take k names) (n ∷ []) a.name a.there; above = a.above })
    (λ j h. record { name = n; there = Contains-append_right (take k names) (n ∷ []) n (contains_head n []); above = h })
    (λ j a. go j a (Contains-append_cases (take k names) (n ∷ []) a.name a.there)) before here)
  where
    last : (x : List ℕ) → Contains (n ∷ []) x → n ≡ x
    last x h = at (contains_cases n x [] h)
      where
        at : (n ≡ x) ⊎ Contains [] x → n ≡ x
        at (inl e) = e
        at (inr h) = absurd (none_in x h)

    go : (j : InstanceId) (a : IsAbove up t (take k names ++ n ∷ []) j) → Contains (take k names) a.name ⊎ Contains (n ∷ []) a.name → IsAbove up t (take k names) j ⊎ Contains (up (named t n)) j
    go j a (inl h) = inl (record { name = a.name; there = h; above = a.above })
    go j a (inr h) = inr (subst (λ x. Contains (up (named t x)) j) (sym (last a.name h)) a.above)

pub names_start : (up : InstanceId → List InstanceId) (t : ℕ) (m : Marked) → Marks (IsAbove up t []) m m
names_start up t m = marks_none (IsAbove up t []) m (λ j a. none_in a.name a.there)

module _ (b : Base) (c : Facts) where
  -- one list
  pub key_none : (r : RelId) (i : InstanceId) (m n : Marked) → c.members r i ≡ None → Marks (λ j. Contains (chain c.container i) j) m n → Marks (OwnsKey b c r i) m n
  key_none r i m n e = marks_same (λ j. Contains (chain c.container i) j) (OwnsKey b c r i) m n
      (λ j h. record { own = i; is_own = contains_head i _; above = h }) (λ j x. go j x (contains_cases i x.own (members_of (b.shape.target r) (c.members r i)) x.is_own))
    where
      go : (j : InstanceId) (x : OwnsKey b c r i j) → (i ≡ x.own) ⊎ Contains (members_of (b.shape.target r) (c.members r i)) x.own → Contains (chain c.container i) j
      go j x (inl q) = subst (λ k. Contains (chain c.container k) j) (sym q) x.above
      go j x (inr h) = absurd (none_in x.own (subst (λ o. Contains (members_of (b.shape.target r) o) x.own) e h))

  pub key_some : (r : RelId) (i : InstanceId) (names : List (List ℕ)) (l m n : Marked) → c.members r i ≡ Some names → Marks (λ j. Contains (chain c.container i) j) l m → Marks (IsAbove (chain c.container) (b.shape.target r) names) m n → Marks (OwnsKey b c r i) l n
  key_some r i names l m n e = marks_both (λ j. Contains (chain c.container i) j) (IsAbove (chain c.container) (b.shape.target r) names) (OwnsKey b c r i) l m n
      (λ j h. record { own = i; is_own = contains_head i _; above = h })
      (λ j a. record {
        own = named (b.shape.target r) a.name;
        is_own = contains_tail i (named (b.shape.target r) a.name) _ (subst (λ o. Contains (members_of (b.shape.target r) o) (named (b.shape.target r) a.name)) (sym e) (in_map (named (b.shape.target r)) names a.name a.there));
        above = a.above;
      })
      (λ j x. go j x (contains_cases i x.own (members_of (b.shape.target r) (c.members r i)) x.is_own))
    where
      go : (j : InstanceId) (x : OwnsKey b c r i j) → (i ≡ x.own) ⊎ Contains (members_of (b.shape.target r) (c.members r i)) x.own → Contains (chain c.container i) j ⊎ IsAbove (chain c.container) (b.shape.target r) names j
      go j x (inl q) = inl (subst (λ k. Contains (chain c.container k) j) (sym q) x.above)
      go j x (inr h) =
          let y = map_out (named (b.shape.target r)) names x.own (subst (λ o. Contains (members_of (b.shape.target r) o) x.own) e h) in
          inr (record { name = y.0; there = y.1.0; above = subst (λ k. Contains (chain c.container k) j) (sym y.1.1) x.above })

  module _ (f : Found) where
    one_of : {X : Type 0} (x y : X) → Contains (x ∷ []) y → x ≡ y
    one_of x y h = at (contains_cases x y [] h)
      where
        at : (x ≡ y) ⊎ Contains [] y → x ≡ y
        at (inl e) = e
        at (inr h) = absurd (none_in y h)

    -- one slot
    pub slot_day : (x : AttrId × InstanceId) (m n : Marked) → HasDay true f x.0 x.1 → Marks (λ j. Contains (chain c.container x.1) j) m n → Marks (OwnsPoint c f (x ∷ [])) m n
    slot_day x m n has_day = marks_same (λ j. Contains (chain c.container x.1) j) (OwnsPoint c f (x ∷ [])) m n
        (λ j h. record { slot = x; there = contains_head x []; day = has_day.0; has_day = has_day.1; above = h })
        (λ j o. subst (λ (y : AttrId × InstanceId). Contains (chain c.container y.1) j) (sym (one_of x o.slot o.there)) o.above)

    pub slot_none : (x : AttrId × InstanceId) (m : Marked) → HasDay false f x.0 x.1 → Marks (OwnsPoint c f (x ∷ [])) m m
    slot_none x m none = marks_none (OwnsPoint c f (x ∷ [])) m (λ j o.
        let h : has f (Point x.0 x.1 o.day) ≡ true = subst (λ (y : AttrId × InstanceId). has f (Point y.0 y.1 o.day) ≡ true) (sym (one_of x o.slot o.there)) o.has_day in
        cc (h, none o.day))

    pub slots_next : (xs : List (AttrId × InstanceId)) (k : ℕ) (x : AttrId × InstanceId) (l m n : Marked) → k < length xs → x ≡ get_or xs k x → Marks (OwnsPoint c f (take k xs)) l m → Marks (OwnsPoint c f (x ∷ [])) m n → Marks (OwnsPoint c f (take (k + 1) xs)) l n
    slots_next xs k x l m n lt is before here =
        subst (λ ys. Marks (OwnsPoint c f ys) l n) (sym (next_item xs k x lt is))
        (marks_both (OwnsPoint c f (take k xs)) (OwnsPoint c f (x ∷ [])) (OwnsPoint c f (take k xs ++ x ∷ [])) l m n
        (λ j o. record { slot = o.slot; there = Contains-append_left (take k xs) (x ∷ []) o.slot o.there; day = o.day; has_day = o.has_day; above = o.above })
        (λ j o. record { slot = o.slot; there = Contains-append_right (take k xs) (x ∷ []) o.slot o.there; day = o.day; has_day = o.has_day; above = o.above })
        (λ j o. go j o (Contains-append_cases (take k xs) (x ∷ []) o.slot o.there)) before here)
      where
        go : (j : InstanceId) (o : OwnsPoint c f (take k xs ++ x ∷ []) j) → Contains (take k xs) o.slot ⊎ Contains (x ∷ []) o.slot → OwnsPoint c f (take k xs) j ⊎ OwnsPoint c f (x ∷ []) j
        go j o (inl h) = inl (record { slot = o.slot; there = h; day = o.day; has_day = o.has_day; above = o.above })
        go j o (inr h) = inr (record { slot = o.slot; there = h; day = o.day; has_day = o.has_day; above = o.above })

    pub slots_start : (m : Marked) → Marks (OwnsPoint c f []) m m
    slots_start m = marks_none (OwnsPoint c f []) m (λ j o. none_in o.slot o.there)

    -- one key
    pub key_found : (x : RelId × InstanceId) (m n : Marked) → Has f (Listed x.0 x.1) → Marks (OwnsKey b c x.0 x.1) m n → Marks (OwnsList b c f (x ∷ [])) m n
    key_found x m n found = marks_same (OwnsKey b c x.0 x.1) (OwnsList b c f (x ∷ [])) m n
        (λ j o. record { key = x; there = contains_head x []; is_found = found; own = o.own; is_own = o.is_own; above = o.above })
        (λ j o. subst (λ (y : RelId × InstanceId). OwnsKey b c y.0 y.1 j) (sym (one_of x o.key o.there)) (record { own = o.own; is_own = o.is_own; above = o.above }))

    pub key_not_found : (x : RelId × InstanceId) (m : Marked) → has f (Listed x.0 x.1) ≡ false → Marks (OwnsList b c f (x ∷ [])) m m
    key_not_found x m none = marks_none (OwnsList b c f (x ∷ [])) m (λ j o.
        let h : has f (Listed x.0 x.1) ≡ true = subst (λ (y : RelId × InstanceId). has f (Listed y.0 y.1) ≡ true) (sym (one_of x o.key o.there)) o.is_found in
        cc (h, none))

    pub keys_next : (xs : List (RelId × InstanceId)) (k : ℕ) (x : RelId × InstanceId) (l m n : Marked) → k < length xs → x ≡ get_or xs k x → Marks (OwnsList b c f (take k xs)) l m → Marks (OwnsList b c f (x ∷ [])) m n → Marks (OwnsList b c f (take (k + 1) xs)) l n
    keys_next xs k x l m n lt is before here =
        subst (λ ys. Marks (OwnsList b c f ys) l n) (sym (next_item xs k x lt is))
        (marks_both (OwnsList b c f (take k xs)) (OwnsList b c f (x ∷ [])) (OwnsList b c f (take k xs ++ x ∷ [])) l m n
        (λ j o. record { key = o.key; there = Contains-append_left (take k xs) (x ∷ []) o.key o.there; is_found = o.is_found; own = o.own; is_own = o.is_own; above = o.above })
        (λ j o. record { key = o.key; there = Contains-append_right (take k xs) (x ∷ []) o.key o.there; is_found = o.is_found; own = o.own; is_own = o.is_own; above = o.above })
        (λ j o. go j o (Contains-append_cases (take k xs) (x ∷ []) o.key o.there)) before here)
      where
        go : (j : InstanceId) (o : OwnsList b c f (take k xs ++ x ∷ []) j) → Contains (take k xs) o.key ⊎ Contains (x ∷ []) o.key → OwnsList b c f (take k xs) j ⊎ OwnsList b c f (x ∷ []) j
        go j o (inl h) = inl (record { key = o.key; there = h; is_found = o.is_found; own = o.own; is_own = o.is_own; above = o.above })
        go j o (inr h) = inr (record { key = o.key; there = h; is_found = o.is_found; own = o.own; is_own = o.is_own; above = o.above })

    pub keys_start : (m : Marked) → Marks (OwnsList b c f []) m m
    keys_start m = marks_none (OwnsList b c f []) m (λ j o. none_in o.key o.there)

    -- all of it: what is marked is owned
    pub marked_are_owned : (p : Use) (m n : Marked) → IsCone b c p f → IsPlaced b c p → Marks (OwnsPoint c f (slots b c)) empty m → Marks (OwnsList b c f (keys b c)) m n → (j : InstanceId) → (is_marked n j ≡ true) ↔ IsOwned b c p j
    marked_are_owned p m n cone lies points lists j = (λ h. there (lists.only j h), λ o. back o.use_ o.own o.in_cone o.is_own o.above)
      where
        of_point : OwnsPoint c f (slots b c) j → IsOwned b c p j
        of_point o = record { use_ = Point o.slot.0 o.slot.1 o.day; own = o.slot.1; in_cone = (cone (Point o.slot.0 o.slot.1 o.day)).0 o.has_day; is_own = contains_head o.slot.1 []; above = o.above }

        early : (is_marked empty j ≡ true) ⊎ OwnsPoint c f (slots b c) j → IsOwned b c p j
        early (inl h) = let key : ℕ × InstanceId = (0, j) in let e : true ≡ false = sym h ∙ ap is_some (get-empty cell_cmp key) in absurd (cc e)
        early (inr o) = of_point o

        there : (is_marked m j ≡ true) ⊎ OwnsList b c f (keys b c) j → IsOwned b c p j
        there (inl h) = early (points.only j h)
        there (inr o) = record { use_ = Listed o.key.0 o.key.1; own = o.own; in_cone = (cone (Listed o.key.0 o.key.1)).0 o.is_found; is_own = o.is_own; above = o.above }

        back : (u : Use) (i : InstanceId) → InCone b c p u → Contains (own_of b c u) i → Contains (chain c.container i) j → is_marked n j ≡ true
        back (Point a k d) i h own above = lists.kept j (points.marked j (record { slot = (a, k); there = lies.points a k d h; day = d; has_day = (cone (Point a k d)).1 h; above = subst (λ x. Contains (chain c.container x) j) (sym (one_of k i own)) above }))
        back (Listed r k) i h own above = lists.marked j (record { key = (r, k); there = lies.lists r k h; is_found = (cone (Listed r k)).1 h; own = i; is_own = own; above = above })
