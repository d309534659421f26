-- Cells that are gone through as they are found: they are the cells of the map, each of them once.
use Rattle.std.specs.Prelude.{◌≡◌, ◌+◌, ◌-◌, ℕ, Bool, true, false, cond, List, [], ◌∷◌, ◌++◌, Option, None, Some, Contains, length, is_some, nat_eq, refl}
use Rattle.std.specs.Option.{option_and_then}
use Rattle.std.specs.List.{AllByRecursion, IsDistinct}
use Rattle.std.specs.Map.{lookup, keys_of}
use Rattle.std.specs.Ordering.{nat_cmp, eq_by_cmp}
use Rattle.std.specs.declared.cmp.Ordering.{Ordering}
use Rattle.std.specs.Cmp.{IsTotalOrder, nat_cmp_total, eq_by_cmp_equiv}
use Rattle.std.specs.FinMap.{FinMap, get, find, from_entries, get-from_entries, insert, remove, len, get-remove, len-remove, len-insert}
use Rattle.std.specs.BTreeMap.{is_at}
use Rattle.std.proofs.Common.{◌⊎◌, inl, inr, zero, suc, arith, ap, sym, subst, ◌∙◌}
use Rattle.std.proofs.lemmas.List.Elements.{Contains-append_left, Contains-append_right, Contains-append_cases, Contains-push_cases}
use Rattle.std.proofs.lemmas.List.{length-append, length_push}
use Rattle.std.proofs.lemmas.Map.Keys.{IsDistinct-head, IsDistinct-tail}
use Rattle.std.proofs.lemmas.Map.Lookups.{exact_unsigned}
use Rattle.std.proofs.lemmas.Map.Views.{tells_apart}
use mathlib.Core.Bool.{true≢false}
use Rattle.opa_cells.specs.declared.instance.InstanceId.{InstanceId}
use Rattle.opa_cells.specs.Instances.{instance_cmp, is_same}
use Rattle.opa_cells.specs.Rows.{row_entries, with_one, without, holds, with_rows, cells_in, cell}
use Rattle.opa_cells.specs.Unordered.{AddsCells, AddsRow, AddsRows, AreCells, HasRow, IsInRow, IsInRows, Keeps, besides}
use Rattle.opa_cells.proofs.Orders.{instance_exact, instance_total, same_is, same_itself}
use Rattle.opa_cells.proofs.Ones.{one_got, put_again}
use Rattle.opa_cells.proofs.Rowed.{get-rows, cell_find, none_after}
use Rattle.opa_cells.proofs.Inner.{equal, hash_distinct, row_len}
use Rattle.opa_cells.proofs.Numbered.{row_find, rows_distinct, rows_len}

module _ {X : Type 0} where
  at_head : (x : X) (xs : List X) → Contains (x ∷ xs) x
  at_head x xs = (0, omega arith, refl)

  in_tail : (x y : X) (xs : List X) → Contains xs y → Contains (x ∷ xs) y
  in_tail x y xs h = (suc h.0, omega (arith, h.1), h.2)

  head_or_tail : (x y : X) (xs : List X) → Contains (x ∷ xs) y → (x ≡ y) ⊎ Contains xs y
  head_or_tail x y xs (zero, lt, is) = inl is
  head_or_tail x y xs (suc k, lt, is) = inr (k, omega (arith, lt), is)

  in_none : (x : X) → Contains [] x → ⊥
  in_none x (k, lt, is) = omega (arith, lt)

module _ {K V : Type 0} (R : K → K → Ordering) (total : IsTotalOrder R) where
  apart_from : (x : K) (es : List (K × V)) (k : K) (v : V) → AllByRecursion (λ y. eq_by_cmp R x y ≡ false) (keys_of es) → Contains {X = K × V} es (k, v) → eq_by_cmp R x k ≡ false
  apart_from x [] k v others h = absurd (in_none {X = K × V} (k, v) h)
  apart_from x (e ∷ es) k v others h = go (apart_from x es k v others.1) (head_or_tail {X = K × V} e (k, v) es h)
    where
      go : (Contains {X = K × V} es (k, v) → eq_by_cmp R x k ≡ false) → (e ≡ (k, v)) ⊎ Contains {X = K × V} es (k, v) → eq_by_cmp R x k ≡ false
      go later (inl same) = ap (λ (p : K × V). eq_by_cmp R x p.0) (sym same) ∙ others.0
      go later (inr h) = later h

  -- of entries whose keys differ, one that stands there is the one that is found
  found_once : (es : List (K × V)) → IsDistinct (eq_by_cmp R) (keys_of es) → (k : K) (v : V) → Contains {X = K × V} es (k, v) → find R k es ≡ Some v
  found_once [] d k v h = absurd (in_none {X = K × V} (k, v) h)
  found_once (e ∷ es) d k v h = go (found_once es (IsDistinct-tail (eq_by_cmp R) e.0 (keys_of es) d) k v) (head_or_tail {X = K × V} e (k, v) es h)
    where
      go : (Contains {X = K × V} es (k, v) → find R k es ≡ Some v) → (e ≡ (k, v)) ⊎ Contains {X = K × V} es (k, v) → find R k (e ∷ es) ≡ Some v
      go later (inl same) = ap (λ (p : K × V). find R k (p ∷ es)) same ∙ ap (λ b. cond b (Some v) (find R k es)) ((eq_by_cmp_equiv total).refl k)
      go later (inr h) =
          ap (λ b. cond b (Some e.1) (find R k es)) ((eq_by_cmp_equiv total).symm k e.0 ∙ apart_from e.0 es k v (IsDistinct-head (eq_by_cmp R) e.0 (keys_of es) d) h) ∙ later h

-- a cell with its key
abbrev Entry : Type 0 → Type 0
Entry X = (ℕ × InstanceId) × X

module _ {V : Type 0} where
  cell_in : (n : ℕ) (es : List (InstanceId × V)) (i : InstanceId) (v : V) → find instance_cmp i es ≡ Some v → Contains {X = Entry V} (row_entries n es) ((n, i), v)
  cell_in n [] i v h = absurd (cc h)
  cell_in n (e ∷ es) i v h = go (eq_by_cmp instance_cmp i e.0) refl h (cell_in n es i v)
    where
      go : (t : Bool) → eq_by_cmp instance_cmp i e.0 ≡ t → cond t (Some e.1) (find instance_cmp i es) ≡ Some v → (find instance_cmp i es ≡ Some v → Contains {X = Entry V} (row_entries n es) ((n, i), v)) → Contains {X = Entry V} (row_entries n (e ∷ es)) ((n, i), v)
      go true q g rest =
          let key : i ≡ e.0 = tells_apart instance_exact i e.0 q in let val : e.1 ≡ v = cc g in
          subst (λ (x : InstanceId). Contains {X = Entry V} (row_entries n (e ∷ es)) ((n, x), v)) (sym key) (subst (λ (x : V). Contains {X = Entry V} (row_entries n (e ∷ es)) ((n, e.0), x)) val (at_head {X = Entry V} ((n, e.0), e.1) (row_entries n es)))
      go false q g rest = in_tail {X = Entry V} ((n, e.0), e.1) ((n, i), v) (row_entries n es) (rest g)

  without_got : (m : FinMap instance_cmp V) (one : Option (InstanceId × V)) (i : InstanceId) → get (without m one) i ≡ cond (holds one i) None (get m i)
  without_got m None i = refl
  without_got m (Some e) i = get-remove instance_total m e.0 i

  -- what others have is found beside the one
  besides_find : (one : Option (InstanceId × V)) (es : List (InstanceId × V)) (i : InstanceId) → holds one i ≡ false → find instance_cmp i (besides one es) ≡ find instance_cmp i es
  besides_find one [] i apart = refl
  besides_find one (e ∷ es) i apart = go (holds one e.0) (eq_by_cmp instance_cmp i e.0) refl refl (besides_find one es i apart)
    where
      go : (h t : Bool) → holds one e.0 ≡ h → eq_by_cmp instance_cmp i e.0 ≡ t → find instance_cmp i (besides one es) ≡ find instance_cmp i es → find instance_cmp i (cond h (besides one es) (e ∷ besides one es)) ≡ cond t (Some e.1) (find instance_cmp i es)
      go true true h t rest = absurd (true≢false (sym h ∙ ap (holds one) (sym (tells_apart instance_exact i e.0 t)) ∙ apart))
      go true false h t rest = rest
      go false true h t rest = ap (λ b. cond b (Some e.1) (find instance_cmp i (besides one es))) t
      go false false h t rest = ap (λ b. cond b (Some e.1) (find instance_cmp i (besides one es))) t ∙ rest

  -- an entry that stands beside the one, at a number
  record IsBeside (n : ℕ) (one : Option (InstanceId × V)) (es : List (InstanceId × V)) (e : Entry V) : Type 0 where
    number : e.0.0 ≡ n
    among : Contains {X = InstanceId × V} es (e.0.1, e.1)
    apart : holds one e.0.1 ≡ false

  besides_only : (n : ℕ) (one : Option (InstanceId × V)) (es : List (InstanceId × V)) (e : Entry V) → Contains {X = Entry V} (row_entries n (besides one es)) e → IsBeside n one es e
  besides_only n one [] e h = absurd (in_none {X = Entry V} e h)
  besides_only n one (x ∷ es) e h = go (holds one x.0) refl h (besides_only n one es e)
    where
      later : IsBeside n one es e → IsBeside n one (x ∷ es) e
      later b = record { number = b.number; among = in_tail {X = InstanceId × V} x (e.0.1, e.1) es b.among; apart = b.apart }

      here : holds one x.0 ≡ false → ((n, x.0), x.1) ≡ e → IsBeside n one (x ∷ es) e
      here apart same = record {
        number = ap (λ (y : Entry V). y.0.0) (sym same);
        among = subst (λ (y : Entry V). Contains {X = InstanceId × V} (x ∷ es) (y.0.1, y.1)) same (at_head {X = InstanceId × V} x es);
        apart = subst (λ (y : Entry V). holds one y.0.1 ≡ false) same apart;
      }

      first : holds one x.0 ≡ false → (((n, x.0), x.1) ≡ e) ⊎ Contains {X = Entry V} (row_entries n (besides one es)) e → (Contains {X = Entry V} (row_entries n (besides one es)) e → IsBeside n one es e) → IsBeside n one (x ∷ es) e
      first apart (inl same) rest = here apart same
      first apart (inr h) rest = later (rest h)

      go : (b : Bool) → holds one x.0 ≡ b → Contains {X = Entry V} (row_entries n (cond b (besides one es) (x ∷ besides one es))) e → (Contains {X = Entry V} (row_entries n (besides one es)) e → IsBeside n one es e) → IsBeside n one (x ∷ es) e
      go true q h rest = later (rest h)
      go false q h rest = first q (head_or_tail {X = Entry V} ((n, x.0), x.1) e (row_entries n (besides one es)) h) rest

  entries_count : (n : ℕ) (es : List (InstanceId × V)) → length (row_entries n es) ≡ length es
  entries_count n [] = refl
  entries_count n (e ∷ es) = ap suc (entries_count n es)

  all_beside : (es : List (InstanceId × V)) → besides None es ≡ es
  all_beside [] = refl
  all_beside (e ∷ es) = ap (λ xs. e ∷ xs) (all_beside es)

  -- one if there is something
  abbrev there : Option V → ℕ
  there o = cond (is_some o) 1 0

  beside_count : (x : InstanceId × V) (es : List (InstanceId × V)) → IsDistinct (eq_by_cmp instance_cmp) (keys_of es) → length (besides (Some x) es) + there (find instance_cmp x.0 es) ≡ length es
  beside_count x [] d = refl
  beside_count x (e ∷ es) d = go (is_same e.0 x.0) refl (beside_count x es (IsDistinct-tail (eq_by_cmp instance_cmp) e.0 (keys_of es) d))
    where
      none : is_same e.0 x.0 ≡ true → find instance_cmp x.0 es ≡ None
      none same = sym (cell_find es x.0) ∙ ap (cell es) (sym (same_is e.0 x.0 same)) ∙ none_after e.0 es (IsDistinct-head (eq_by_cmp instance_cmp) e.0 (keys_of es) d)

      turned : (b : Bool) → is_same e.0 x.0 ≡ b → find instance_cmp x.0 (e ∷ es) ≡ cond b (Some e.1) (find instance_cmp x.0 es)
      turned b q = ap (λ t. cond t (Some e.1) (find instance_cmp x.0 es)) ((eq_by_cmp_equiv instance_total).symm x.0 e.0 ∙ q)

      go : (b : Bool) → is_same e.0 x.0 ≡ b → length (besides (Some x) es) + there (find instance_cmp x.0 es) ≡ length es → length (cond b (besides (Some x) es) (e ∷ besides (Some x) es)) + there (find instance_cmp x.0 (e ∷ es)) ≡ suc (length es)
      go true q rest =
          let now = ap there (turned true q) in let before = ap there (none q) in
          omega (arith, now, before, rest)
      go false q rest = let now = ap there (turned false q) in omega (arith, now, rest)

  others_count : (n : ℕ) (one : Option (InstanceId × V)) (es : List (InstanceId × V)) (m : FinMap instance_cmp V) → IsDistinct equal (keys_of es) → from_entries es ≡ m → length (row_entries n (besides one es)) ≡ len (without m one)
  others_count n None es m d is = entries_count n (besides None es) ∙ ap length (all_beside es) ∙ sym (row_len es d) ∙ ap len is
  others_count n (Some x) es m d is = entries_count n (besides (Some x) es) ∙ go (is_some (get m x.0)) refl ∙ sym (len-remove instance_total m x.0)
    where
      found : find instance_cmp x.0 es ≡ get m x.0
      found = sym (get-from_entries instance_total es x.0) ∙ ap (λ y. get y x.0) is

      all : length (besides (Some x) es) + there (get m x.0) ≡ len m
      all = ap (λ o. length (besides (Some x) es) + there o) (sym found) ∙ beside_count x es (hash_distinct es d) ∙ sym (row_len es d) ∙ ap len is

      go : (b : Bool) → is_some (get m x.0) ≡ b → length (besides (Some x) es) ≡ cond b (len m - 1) (len m)
      go true q = let t : there (get m x.0) ≡ 1 = ap (λ b. cond b 1 0) q in omega (arith, t, all)
      go false q = let t : there (get m x.0) ≡ 0 = ap (λ b. cond b 1 0) q in omega (arith, t, all)

  -- the cells that a map by hash has are added, but that of the one beside them
  pub others_added : (n : ℕ) (one : Option (InstanceId × V)) (es : List (InstanceId × V)) (m : FinMap instance_cmp V) (old new : List (Entry V)) → IsDistinct equal (keys_of es) → from_entries es ≡ m → new ≡ old ++ row_entries n (besides one es) → AddsRow n (without m one) old new
  others_added n one es m old new d is more = record {
    kept = λ e h. subst (λ all. Contains {X = Entry V} all e) (sym more) (Contains-append_left old (row_entries n (besides one es)) e h);
    added = λ i v h. go i v (holds one i) refl (sym (without_got m one i) ∙ h);
    only = λ e h. new_only e (Contains-append_cases old (row_entries n (besides one es)) e (subst (λ all. Contains {X = Entry V} all e) more h));
    count = ap length more ∙ length-append old (row_entries n (besides one es)) ∙ ap (λ k. length old + k) (others_count n one es m d is);
  }
    where
      found : (i : InstanceId) → find instance_cmp i es ≡ get m i
      found i = sym (get-from_entries instance_total es i) ∙ ap (λ x. get x i) is

      go : (i : InstanceId) (v : V) (b : Bool) → holds one i ≡ b → cond b None (get m i) ≡ Some v → Contains {X = Entry V} new ((n, i), v)
      go i v true q h = absurd (cc h)
      go i v false q h = subst (λ all. Contains {X = Entry V} all ((n, i), v)) (sym more)
          (Contains-append_right old (row_entries n (besides one es)) ((n, i), v) (cell_in n (besides one es) i v (besides_find one es i q ∙ found i ∙ h)))

      new_only : (e : Entry V) → Contains {X = Entry V} old e ⊎ Contains {X = Entry V} (row_entries n (besides one es)) e → Contains {X = Entry V} old e ⊎ IsInRow n (without m one) e
      new_only e (inl h) = inl h
      new_only e (inr h) =
          let b = besides_only n one es e h in
          inr (b.number, without_got m one e.0.1 ∙ ap (λ t. cond t None (get m e.0.1)) b.apart ∙ sym (found e.0.1) ∙ found_once instance_cmp instance_total es (hash_distinct es d) e.0.1 e.1 b.among)

  -- and the one beside them
  pub one_added : (n : ℕ) (x : InstanceId × V) (m row : FinMap instance_cmp V) (old mid new : List (Entry V)) → with_one (Some x) m ≡ row → AddsRow n (without m (Some x)) old mid → new ≡ mid ++ ((n, x.0), x.1) ∷ [] → AddsRow n row old new
  one_added n x m row old mid new is others more = record {
    kept = λ e h. stays e (others.kept e h);
    added = λ i v h. go i v (is_same i x.0) refl (sym (row_got i) ∙ h);
    only = λ e h. new_only e (Contains-push_cases mid ((n, x.0), x.1) e (subst (λ all. Contains {X = Entry V} all e) more h));
    count = let longer = ap length more ∙ length_push mid ((n, x.0), x.1) in let before = others.count in let rows = row_len_is in omega (arith, longer, before, rows);
  }
    where
      whole : insert (remove m x.0) x.0 x.1 ≡ row
      whole = put_again m x.0 x.1 ∙ is

      row_got : (i : InstanceId) → get row i ≡ cond (is_same i x.0) (Some x.1) (get (remove m x.0) i)
      row_got i = ap (λ y. get y i) (sym whole) ∙ one_got (Some x) (remove m x.0) i

      row_len_is : len row ≡ len (remove m x.0) + 1
      row_len_is = ap len (sym whole) ∙ len-insert instance_total (remove m x.0) x.0 x.1 ∙ ap (λ o. cond (is_some o) (len (remove m x.0)) (len (remove m x.0) + 1)) (get-remove instance_total m x.0 x.0 ∙ ap (λ b. cond b None (get m x.0)) (same_itself x.0))

      stays : (e : Entry V) → Contains {X = Entry V} mid e → Contains {X = Entry V} new e
      stays e h = subst (λ all. Contains {X = Entry V} all e) (sym more) (Contains-append_left mid (((n, x.0), x.1) ∷ []) e h)

      one : Contains {X = Entry V} new ((n, x.0), x.1)
      one = subst (λ all. Contains {X = Entry V} all ((n, x.0), x.1)) (sym more) (Contains-append_right mid (((n, x.0), x.1) ∷ []) ((n, x.0), x.1) (at_head {X = Entry V} ((n, x.0), x.1) []))

      go : (i : InstanceId) (v : V) (b : Bool) → is_same i x.0 ≡ b → cond b (Some x.1) (get (remove m x.0) i) ≡ Some v → Contains {X = Entry V} new ((n, i), v)
      go i v true s h =
          let val : x.1 ≡ v = cc h in
          subst (λ (y : InstanceId). Contains {X = Entry V} new ((n, y), v)) (sym (same_is i x.0 s)) (subst (λ (y : V). Contains {X = Entry V} new ((n, x.0), y)) val one)
      go i v false s h = stays ((n, i), v) (others.added i v h)

      -- what others have at an instance isn't at the one's
      other : (i : InstanceId) (v : V) (b : Bool) → is_same i x.0 ≡ b → get (remove m x.0) i ≡ Some v → cond b (Some x.1) (get (remove m x.0) i) ≡ Some v
      other i v true s h = absurd (cc (sym (get-remove instance_total m x.0 i ∙ ap (λ b. cond b None (get m i)) s) ∙ h))
      other i v false s h = h

      old_or_row : (e : Entry V) → Contains {X = Entry V} old e ⊎ IsInRow n (remove m x.0) e → Contains {X = Entry V} old e ⊎ IsInRow n row e
      old_or_row e (inl h) = inl h
      old_or_row e (inr (number, got)) = inr (number, row_got e.0.1 ∙ other e.0.1 e.1 (is_same e.0.1 x.0) refl got)

      new_only : (e : Entry V) → Contains {X = Entry V} mid e ⊎ (((n, x.0), x.1) ≡ e) → Contains {X = Entry V} old e ⊎ IsInRow n row e
      new_only e (inl h) = old_or_row e (others.only e h)
      new_only e (inr same) = inr (subst (λ (y : Entry V). IsInRow n row y) same (refl, row_got x.0 ∙ ap (λ b. cond b (Some x.1) (get (remove m x.0) x.0)) (same_itself x.0)))

  pub none_added : (n : ℕ) (m row : FinMap instance_cmp V) (old new : List (Entry V)) → m ≡ row → AddsRow n m old new → AddsRow n row old new
  none_added n m row old new is adds = subst (λ x. AddsRow n x old new) is adds

  -- rows, one after another: each is added, or still to come
  pub record AreRows (rs rest : List (ℕ × FinMap instance_cmp V)) (old new : List (Entry V)) : Type 0 where
    pub kept : Keeps old new
    pub each : (r : ℕ × FinMap instance_cmp V) → Contains rs r → HasRow r.0 r.1 new ⊎ Contains rest r
    pub among : (r : ℕ × FinMap instance_cmp V) → Contains rest r → Contains rs r
    pub only : (e : Entry V) → Contains new e → Contains old e ⊎ IsInRows rs e
    pub count : length new + cells_in rest ≡ length old + cells_in rs

  pub rows_begin : (rs : List (ℕ × FinMap instance_cmp V)) (old : List (Entry V)) → AreRows rs rs old old
  rows_begin rs old = record { kept = λ e h. h; each = λ r h. inr h; among = λ r h. h; only = λ e h. inl h; count = refl }

  pub rows_step : (rs rest all : List (ℕ × FinMap instance_cmp V)) (n : ℕ) (row : FinMap instance_cmp V) (old mid new : List (Entry V)) → (n, row) ∷ rest ≡ all → AreRows rs all old mid → AddsRow n row mid new → AreRows rs rest old new
  rows_step rs rest all n row old mid new is before adds = record {
    kept = λ e h. adds.kept e (before.kept e h);
    each = λ r h. go r (before.each r h);
    among = λ r h. before.among r (later r h);
    only = λ e h. told e (adds.only e h);
    count = let more = adds.count in let counted = before.count in let front = ap cells_in is in omega (arith, more, counted, front);
  }
    where
      later : (r : ℕ × FinMap instance_cmp V) → Contains rest r → Contains all r
      later r h = subst (λ xs. Contains {X = ℕ × FinMap instance_cmp V} xs r) is (in_tail {X = ℕ × FinMap instance_cmp V} (n, row) r rest h)

      stands : Contains {X = ℕ × FinMap instance_cmp V} rs (n, row)
      stands = before.among (n, row) (subst (λ xs. Contains {X = ℕ × FinMap instance_cmp V} xs (n, row)) is (at_head {X = ℕ × FinMap instance_cmp V} (n, row) rest))

      told : (e : Entry V) → Contains {X = Entry V} mid e ⊎ IsInRow n row e → Contains {X = Entry V} old e ⊎ IsInRows rs e
      told e (inl h) = before.only e h
      told e (inr h) = inr (record { row = (n, row); stands = stands; here = h })

      now : (r : ℕ × FinMap instance_cmp V) → ((n, row) ≡ r) ⊎ Contains rest r → HasRow r.0 r.1 new ⊎ Contains rest r
      now r (inl e) = inl (subst (λ (x : ℕ × FinMap instance_cmp V). HasRow x.0 x.1 new) e adds.added)
      now r (inr h) = inr h

      go : (r : ℕ × FinMap instance_cmp V) → HasRow r.0 r.1 mid ⊎ Contains all r → HasRow r.0 r.1 new ⊎ Contains rest r
      go r (inl h) = inl (λ i v e. adds.kept ((r.0, i), v) (h i v e))
      go r (inr h) = now r (head_or_tail (n, row) r rest (subst (λ xs. Contains {X = ℕ × FinMap instance_cmp V} xs r) (sym is) h))

  pub rows_end : (rs rest : List (ℕ × FinMap instance_cmp V)) (old new : List (Entry V)) → rest ≡ [] → AreRows rs rest old new → AddsRows rs old new
  rows_end rs rest old new is rows = record {
    kept = rows.kept;
    added = λ r h. go r (rows.each r h);
    only = rows.only;
    count = let counted = rows.count in let none = ap cells_in is in omega (arith, counted, none);
  }
    where
      go : (r : ℕ × FinMap instance_cmp V) → HasRow r.0 r.1 new ⊎ Contains rest r → HasRow r.0 r.1 new
      go r (inl h) = h
      go r (inr h) = absurd (in_none r (subst (λ xs. Contains {X = ℕ × FinMap instance_cmp V} xs r) is h))

  row_in : (n : ℕ) (rs : List (ℕ × FinMap instance_cmp V)) (row : FinMap instance_cmp V) → lookup (is_at (nat_cmp n)) rs ≡ Some row → Contains {X = ℕ × FinMap instance_cmp V} rs (n, row)
  row_in n [] row h = absurd (cc h)
  row_in n (r ∷ rs) row h = go (is_at (nat_cmp n) r.0) refl h (row_in n rs row)
    where
      go : (t : Bool) → is_at (nat_cmp n) r.0 ≡ t → cond t (Some r.1) (lookup (is_at (nat_cmp n)) rs) ≡ Some row → (lookup (is_at (nat_cmp n)) rs ≡ Some row → Contains {X = ℕ × FinMap instance_cmp V} rs (n, row)) → Contains {X = ℕ × FinMap instance_cmp V} (r ∷ rs) (n, row)
      go true q g rest =
          let key : n ≡ r.0 = tells_apart exact_unsigned n r.0 q in let val : r.1 ≡ row = cc g in
          subst (λ (x : ℕ). Contains {X = ℕ × FinMap instance_cmp V} (r ∷ rs) (x, row)) (sym key) (subst (λ (x : FinMap instance_cmp V). Contains {X = ℕ × FinMap instance_cmp V} (r ∷ rs) (r.0, x)) val (at_head {X = ℕ × FinMap instance_cmp V} r rs))
      go false q g rest = in_tail {X = ℕ × FinMap instance_cmp V} r (n, row) rs (rest g)

  -- all rows are all cells
  pub rows_added : (rs : List (ℕ × FinMap instance_cmp V)) (m : FinMap _ V) (old new : List (Entry V)) → IsDistinct nat_eq (keys_of rs) → with_rows rs ≡ m → AddsRows rs old new → AddsCells m old new
  rows_added rs m old new d is rows = record {
    kept = rows.kept;
    added = λ k v h. go k v (lookup (is_at (nat_cmp k.0)) rs) refl (sym (got k) ∙ h);
    only = λ e h. old_or_cell e (rows.only e h);
    count = rows.count ∙ ap (λ k. length old + k) (sym (rows_len rs d) ∙ ap len is);
  }
    where
      got : (k : ℕ × InstanceId) → get m k ≡ option_and_then (λ row. get row k.1) (lookup (is_at (nat_cmp k.0)) rs)
      got k = ap (λ x. get x k) (sym is) ∙ get-rows rs k.0 k.1

      go : (k : ℕ × InstanceId) (v : V) (o : Option (FinMap instance_cmp V)) → lookup (is_at (nat_cmp k.0)) rs ≡ o → option_and_then (λ row. get row k.1) o ≡ Some v → Contains {X = Entry V} new (k, v)
      go k v None e h = absurd (cc h)
      go k v (Some row) e h = rows.added (k.0, row) (row_in k.0 rs row e) k.1 v h

      found : (n : ℕ) (row : FinMap instance_cmp V) → Contains {X = ℕ × FinMap instance_cmp V} rs (n, row) → lookup (is_at (nat_cmp n)) rs ≡ Some row
      found n row h = row_find rs n ∙ found_once nat_cmp nat_cmp_total rs (rows_distinct rs d) n row h

      old_or_cell : (e : Entry V) → Contains {X = Entry V} old e ⊎ IsInRows rs e → Contains {X = Entry V} old e ⊎ (get m e.0 ≡ Some e.1)
      old_or_cell e (inl h) = inl h
      old_or_cell e (inr in_row) =
          let number = in_row.here.0 in
          inr (got e.0 ∙ ap (λ (n : ℕ). option_and_then (λ (row : FinMap instance_cmp V). get row e.0.1) (lookup (is_at (nat_cmp n)) rs)) number
          ∙ ap (option_and_then (λ (row : FinMap instance_cmp V). get row e.0.1)) (found in_row.row.0 in_row.row.1 in_row.stands) ∙ in_row.here.1)

  -- cells that are added to nothing are all cells
  pub all_cells : (m : FinMap _ V) (old new : List (Entry V)) → old ≡ [] → AddsCells m old new → AreCells m new
  all_cells m old new none adds = record {
    all = adds.added;
    only = λ e h. go e (adds.only e h);
    once = let more = adds.count in let empty = ap (λ (xs : List (Entry V)). length xs) none in omega (arith, more, empty);
  }
    where
      go : (e : Entry V) → Contains {X = Entry V} old e ⊎ (get m e.0 ≡ Some e.1) → get m e.0 ≡ Some e.1
      go e (inl h) = absurd (in_none {X = Entry V} e (subst (λ xs. Contains {X = Entry V} xs e) none h))
      go e (inr h) = h
