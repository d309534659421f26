-- The cells of rows in order of their keys, and how many there are.
use Rattle.std.specs.Prelude.{◌≡◌, ℕ, zero, suc, ◌+◌, ◌-◌, ◌≤◌, Bool, true, false, cond, ◌==◌, not, List, [], ◌∷◌, ◌++◌, ◌&&◌, T, length, Option, None, Some, is_some, refl, Result, Ok, Err, IfOk}
use Rattle.std.specs.List.{AllByRecursion}
use Rattle.std.specs.List.Sorted.{IsStrictlySortedBy}
use Rattle.std.specs.Option.{option_and_then, option_or}
use Rattle.std.specs.Map.{lookup, keys_of}
use Rattle.std.specs.Ordering.{nat_cmp, is_eq, is_lt, eq_by_cmp, ordering_then}
use Rattle.std.specs.declared.cmp.Ordering.{Ordering}
use Rattle.std.specs.declared.cmp.Ordering.TheVariants.{Less, Equal, Greater}
use Rattle.std.specs.Cmp.{nat_cmp_total, nat_eq_equiv, eq_by_cmp_equiv, tied_itself}
use Rattle.std.specs.FinMap.{FinMap, get, remove, retain_keys, entries, entries_sorted, len, find, put, is_sorted, same_map, empty_of_len, empty, get-empty, get-entries, len-empty, get-remove, len-remove, len-entries, entries-insert}
use Rattle.std.specs.FinMap.Entries.{by_order, below_all}
use Rattle.std.specs.BTreeMap.{is_at}
use Rattle.std.proofs.Common.{arith, ap, sym, subst, ◌∙◌}
use Rattle.std.proofs.lemmas.Map.Lookups.{exact_unsigned}
use Rattle.std.proofs.lemmas.Map.Views.{tells_apart, exact_unsigned_eq}
use mathlib.Core.Bool.{true≢false}
use Rattle.opa_cells.specs.declared.instance.InstanceId.{InstanceId}
use Rattle.opa_cells.specs.Instances.{instance_cmp}
use Rattle.opa_cells.specs.Keys.{cell_cmp}
use Rattle.opa_cells.specs.Rows.{with_cells, with_rows, row_entries, all_entries, cells_in, cells_at, kept_if}
use Rattle.opa_cells.proofs.Orders.{cell_exact, cell_total, get_kept}
use Rattle.opa_cells.proofs.Rowed.{in_rows, get-row, get-rows, or_none}

same_number : (n : ℕ) (i j : InstanceId) → instance_cmp i j ≡ Less → cell_cmp (n, i) (n, j) ≡ Less
same_number n i j h = ap (λ o. ordering_then o (instance_cmp i j)) (tied_itself nat_cmp_total n) ∙ h

not_at : (n m : ℕ) → nat_cmp n m ≡ Less → is_at (nat_cmp n) m ≡ false
not_at n m h = ap is_eq h

no_length : {A : Type 0} (xs : List A) → length xs ≡ 0 → xs ≡ []
no_length [] h = refl
no_length (x ∷ xs) h = absurd (omega (arith, h))

empty_entries : {V : Type 0} → entries (empty {X = V} {R = cell_cmp}) ≡ []
empty_entries {V} = no_length (entries (empty {X = V} {R = cell_cmp})) (sym (len-entries (empty {X = V} {R = cell_cmp})) ∙ len-empty cell_cmp V)

less_so : (o : Ordering) → T (is_lt o) → o ≡ Less
less_so Less h = refl
less_so Equal h = absurd h
less_so Greater h = absurd h

first : (a b : Bool) → T (a && b) → T a
first true b h = tt
first false b h = absurd h

second : (a b : Bool) → T (a && b) → T b
second true b h = h
second false b h = absurd h

module _ {K X : Type 0} (R : K → K → Ordering) where
  below_each : (i : K) (es : List (K × X)) → T (below_all R i es) → AllByRecursion (λ j. R i j ≡ Less) (keys_of es)
  below_each i [] h = tt
  below_each i (e ∷ es) h = (less_so (R i e.0) (first _ _ h), below_each i es (second (is_lt (R i e.0)) _ h))

  strictly : (es : List (K × X)) → T (is_sorted R es) → IsStrictlySortedBy R (keys_of es)
  unfolding IsStrictlySortedBy
  strictly [] h = tt
  strictly (e ∷ es) h = (below_each e.0 es (first _ _ h), strictly es (second (below_all R e.0 es) _ h))

  pub sorted_keys : (m : FinMap R X) → IsStrictlySortedBy R (keys_of (entries m))
  sorted_keys m = strictly (entries m) (entries_sorted m)

module _ {V : Type 0} where
  -- the first key of the entries is above k
  abbrev HeadAbove : ℕ × InstanceId → List ((ℕ × InstanceId) × V) → Type 0
  HeadAbove k [] = Unit {0}
  HeadAbove k (x ∷ xs) = cell_cmp k x.0 ≡ Less

  put_front : (k : ℕ × InstanceId) (v : V) (es : List ((ℕ × InstanceId) × V)) → HeadAbove k es → put cell_cmp k v es ≡ (k, v) ∷ es
  put_front k v [] h = refl
  put_front k v (x ∷ xs) h = ap (λ o. by_order o ((k, v) ∷ x ∷ xs) ((x.0, v) ∷ xs) (x ∷ put cell_cmp k v xs)) h

  -- the numbers of all entries are above n
  abbrev pub Above : ℕ → List ((ℕ × InstanceId) × V) → Type 0
  Above n xs = AllByRecursion (λ x. nat_cmp n x.0.0 ≡ Less) xs

  head_above : (n : ℕ) (i : InstanceId) (es : List (InstanceId × V)) (xs : List ((ℕ × InstanceId) × V)) → AllByRecursion (λ j. instance_cmp i j ≡ Less) (keys_of es) → Above n xs → HeadAbove (n, i) (row_entries n es ++ xs)
  head_above n i [] [] sorted above = tt
  head_above n i [] (x ∷ xs) sorted above = ap (λ o. ordering_then o (instance_cmp i x.0.1)) above.0
  head_above n i (e ∷ es) xs sorted above = same_number n i e.0 sorted.0

  pub cells_entries : (n : ℕ) (es : List (InstanceId × V)) (m : FinMap cell_cmp V) → IsStrictlySortedBy instance_cmp (keys_of es) → Above n (entries m) → entries (with_cells n es m) ≡ row_entries n es ++ entries m
  unfolding IsStrictlySortedBy
  cells_entries n [] m sorted above = refl
  cells_entries n (e ∷ es) m sorted above =
      entries-insert cell_total (with_cells n es m) (n, e.0) e.1
      ∙ ap (put cell_cmp (n, e.0) e.1) (cells_entries n es m sorted.1 above)
      ∙ put_front (n, e.0) e.1 (row_entries n es ++ entries m) (head_above n e.0 es (entries m) sorted.0 above)

  -- the numbers of all rows are above n
  abbrev pub RowsAbove : ℕ → List (ℕ × FinMap instance_cmp V) → Type 0
  RowsAbove n rs = AllByRecursion (λ m. nat_cmp n m ≡ Less) (keys_of rs)

  no_row : (n : ℕ) (rs : List (ℕ × FinMap instance_cmp V)) → RowsAbove n rs → lookup (is_at (nat_cmp n)) rs ≡ None
  no_row n [] above = refl
  no_row n (r ∷ rs) above = ap (λ b. cond b (Some r.1) (lookup (is_at (nat_cmp n)) rs)) (not_at n r.0 above.0) ∙ no_row n rs above.1

  above_append : (n : ℕ) (xs ys : List ((ℕ × InstanceId) × V)) → Above n xs → Above n ys → Above n (xs ++ ys)
  above_append n [] ys a b = b
  above_append n (x ∷ xs) ys a b = (a.0, above_append n xs ys a.1 b)

  above_row : (n m : ℕ) → nat_cmp n m ≡ Less → (es : List (InstanceId × V)) → Above n (row_entries m es)
  above_row n m h [] = tt
  above_row n m h (e ∷ es) = (h, above_row n m h es)

  pub above_all : (n : ℕ) (rs : List (ℕ × FinMap instance_cmp V)) → RowsAbove n rs → Above n (all_entries rs)
  above_all n [] above = tt
  above_all n (r ∷ rs) above = above_append n (row_entries r.0 (entries r.1)) (all_entries rs) (above_row n r.0 above.0 (entries r.1)) (above_all n rs above.1)

  -- rows above n have nothing at n
  none_lost : (n : ℕ) (rs : List (ℕ × FinMap instance_cmp V)) → RowsAbove n rs → retain_keys (with_rows rs) (λ k. not (k.0 == n)) ≡ with_rows rs
  none_lost n rs above = same_map cell_total cell_exact _ _ (λ q. get_kept cell_exact (with_rows rs) (λ k. not (k.0 == n)) q ∙ elim (q.0 == n) as (λ b. (q.0 == n) ≡ b → cond (not b) (get (with_rows rs) q) None ≡ get (with_rows rs) q) [
    | true ↦ λ e. sym (get-rows rs q.0 q.1 ∙ ap (λ (o : Option (FinMap instance_cmp V)). option_and_then (λ row. get row q.1) o) (ap (λ m. lookup (is_at (nat_cmp m)) rs) (exact_unsigned_eq q.0 n e) ∙ no_row n rs above))
    | false ↦ λ _. refl
  ] refl)

  pub rows_entries : (rs : List (ℕ × FinMap instance_cmp V)) → IsStrictlySortedBy nat_cmp (keys_of rs) → entries (with_rows rs) ≡ all_entries rs
  unfolding IsStrictlySortedBy
  rows_entries [] sorted = empty_entries
  rows_entries (r ∷ rs) sorted =
      ap (λ m. entries (with_cells r.0 (entries r.1) m)) (none_lost r.0 rs sorted.0)
      ∙ cells_entries r.0 (entries r.1) (with_rows rs) (sorted_keys instance_cmp r.1) (subst (Above r.0) (sym (rows_entries rs sorted.1)) (above_all r.0 rs sorted.0))
      ∙ ap (λ es. row_entries r.0 (entries r.1) ++ es) (rows_entries rs sorted.1)

  row_length : (n : ℕ) (es : List (InstanceId × V)) (xs : List ((ℕ × InstanceId) × V)) → length (row_entries n es ++ xs) ≡ length es + length xs
  row_length n [] xs = omega arith
  row_length n (e ∷ es) xs = let h = row_length n es xs in omega (arith, h)

  all_length : (rs : List (ℕ × FinMap instance_cmp V)) → length (all_entries rs) ≡ cells_in rs
  all_length [] = refl
  all_length (r ∷ rs) = row_length r.0 (entries r.1) (all_entries rs) ∙ ap (λ n. n + length (all_entries rs)) (sym (len-entries r.1)) ∙ ap (λ n. len r.1 + n) (all_length rs)

  -- how many cells rows have
  pub rows_counted : (rs : List (ℕ × FinMap instance_cmp V)) → IsStrictlySortedBy nat_cmp (keys_of rs) → len (with_rows rs) ≡ cells_in rs
  rows_counted rs sorted = len-entries (with_rows rs) ∙ ap length (rows_entries rs sorted) ∙ all_length rs

  -- the cells at a number are those of its row
  pub row_counted : (rs : List (ℕ × FinMap instance_cmp V)) (n : ℕ) (row : FinMap instance_cmp V) → lookup (is_at (nat_cmp n)) rs ≡ Some row → cells_at (with_rows rs) n ≡ len row
  row_counted rs n row at =
      let alone : FinMap cell_cmp V = with_cells n (entries row) empty in
      let none : Above n (entries (empty {X = V} {R = cell_cmp})) = subst (Above n) (sym empty_entries) tt in
      ap len (same_map cell_total cell_exact (retain_keys (with_rows rs) (λ k. k.0 == n)) alone (λ q.
      get_kept cell_exact (with_rows rs) (λ k. k.0 == n) q ∙ ap (λ o. cond (q.0 == n) o None) (get-rows rs q.0 q.1)
      ∙ elim (q.0 == n) as (λ b. (q.0 == n) ≡ b → cond b (in_rows rs q.0 q.1) None ≡ get alone q) [
        | true ↦ λ e. let same = exact_unsigned_eq q.0 n e in
            ap (λ m. in_rows rs m q.1) same ∙ ap (option_and_then (λ (r : FinMap instance_cmp V). get r q.1)) at
            ∙ sym (get-row n row empty q.0 q.1 ∙ ap (λ o. cond (is_eq (nat_cmp q.0 n)) (option_or (get row q.1) o) o) (get-empty cell_cmp q)
            ∙ ap (λ b. cond b (option_or (get row q.1) None) None) (subst (λ m. is_eq (nat_cmp q.0 m) ≡ true) same ((eq_by_cmp_equiv nat_cmp_total).refl q.0)) ∙ or_none (get row q.1))
        | false ↦ λ e. sym (get-row n row empty q.0 q.1 ∙ ap (λ o. cond (is_eq (nat_cmp q.0 n)) (option_or (get row q.1) o) o) (get-empty cell_cmp q)
            ∙ elim (is_eq (nat_cmp q.0 n)) as (λ b. is_eq (nat_cmp q.0 n) ≡ b → cond b (option_or (get row q.1) None) None ≡ None) [
              | true ↦ λ h. absurd (true≢false (sym (number_itself q.0 n (tells_apart exact_unsigned q.0 n h)) ∙ e))
              | false ↦ λ _. refl
            ] refl)
      ] refl))
      ∙ len-entries alone ∙ ap length (cells_entries n (entries row) empty (sorted_keys instance_cmp row) none) ∙ row_length n (entries row) (entries (empty {X = V} {R = cell_cmp}))
      ∙ ap (λ xs. length (entries row) + length xs) empty_entries ∙ nothing_more (length (entries row)) ∙ sym (len-entries row)
    where
      number_itself : (a b : ℕ) → a ≡ b → (a == b) ≡ true
      number_itself a b e = subst (λ x. (a == x) ≡ true) e (nat_eq_equiv.refl a)

      nothing_more : (a : ℕ) → a + 0 ≡ a
      nothing_more a = omega arith

  -- a number without a row has no cells
  pub no_row_counted : (rs : List (ℕ × FinMap instance_cmp V)) (n : ℕ) → lookup (is_at (nat_cmp n)) rs ≡ None → cells_at (with_rows rs) n ≡ 0
  no_row_counted rs n none =
      ap len (same_map cell_total cell_exact (retain_keys (with_rows rs) (λ k. k.0 == n)) empty (λ q.
      get_kept cell_exact (with_rows rs) (λ k. k.0 == n) q ∙ ap (λ o. cond (q.0 == n) o None) (get-rows rs q.0 q.1)
      ∙ elim (q.0 == n) as (λ b. (q.0 == n) ≡ b → cond b (in_rows rs q.0 q.1) None ≡ None) [
        | true ↦ λ e. ap (λ m. in_rows rs m q.1) (exact_unsigned_eq q.0 n e) ∙ ap (option_and_then (λ (r : FinMap instance_cmp V). get r q.1)) none
        | false ↦ λ _. refl
      ] refl
      ∙ sym (get-empty cell_cmp q)))
      ∙ len-empty cell_cmp V

  -- a map with a cell isn't empty
  pub some_counted : (m : FinMap cell_cmp V) (k : ℕ × InstanceId) → is_some (get m k) ≡ true → 1 ≤ len m
  some_counted m k h = go (len m) refl
    where
      go : (n : ℕ) → len m ≡ n → 1 ≤ n
      go zero e = absurd (true≢false (sym h ∙ ap is_some (ap (λ x. get x k) (empty_of_len m e) ∙ get-empty cell_cmp k)))
      go (suc n) e = omega arith

  -- to take out what isn't there changes nothing
  pub none_removed : (m : FinMap cell_cmp V) (k : ℕ × InstanceId) → is_some (get m k) ≡ false → m ≡ remove m k
  none_removed m k h = same_map cell_total cell_exact _ _ (λ q. elim (eq_by_cmp cell_cmp q k) as (λ b. eq_by_cmp cell_cmp q k ≡ b → get m q ≡ cond b None (get m q)) [
    | true ↦ λ e. ap (get m) (tells_apart cell_exact q k e) ∙ nothing (get m k) h
    | false ↦ λ _. refl
  ] refl ∙ sym (get-remove cell_total m k q))
    where
      nothing : (o : Option V) → is_some o ≡ false → o ≡ None
      nothing None e = refl
      nothing (Some v) e = absurd (true≢false e)

  -- each key of the first map is one of the second
  abbrev Within : FinMap cell_cmp V → FinMap cell_cmp V → Type 0
  Within m' m = (q : ℕ × InstanceId) → get m q ≡ None → get m' q ≡ None

  within_removed : (m' m : FinMap cell_cmp V) (k : ℕ × InstanceId) → Within m' m → Within (remove m' k) (remove m k)
  within_removed m' m k w q none =
      get-remove cell_total m' k q ∙ elim (eq_by_cmp cell_cmp q k) as (λ b. cond b None (get m q) ≡ None → cond b None (get m' q) ≡ None) [ true ↦ λ _. refl | false ↦ λ h. w q h ] (sym (get-remove cell_total m k q) ∙ none)

  removed_less : (m : FinMap cell_cmp V) (k : ℕ × InstanceId) → len m ≤ suc (len (remove m k))
  removed_less m k = let h = len-remove cell_total m k in less (is_some (get m k)) (len m) (len (remove m k)) h
    where
      less : (b : Bool) (n r : ℕ) → r ≡ cond b (n - 1) n → n ≤ suc r
      less true n r e = omega (arith, e)
      less false n r e = omega (arith, e)

  taken : (m : FinMap cell_cmp V) (k : ℕ × InstanceId) (v : V) → get m k ≡ Some v → (n : ℕ) → len m ≡ suc n → len (remove m k) ≡ n
  taken m k v at n e = let h = len-remove cell_total m k ∙ ap (λ o. cond (is_some o) (len m - 1) (len m)) at in omega (arith, h, e)

  first_at : (m : FinMap cell_cmp V) (x : (ℕ × InstanceId) × V) (xs : List ((ℕ × InstanceId) × V)) → entries m ≡ x ∷ xs → get m x.0 ≡ Some x.1
  first_at m x xs e = get-entries m x.0 ∙ ap (find cell_cmp x.0) e ∙ ap (λ b. cond b (Some x.1) (find cell_cmp x.0 xs)) ((eq_by_cmp_equiv cell_total).refl x.0)

  within_len : (n : ℕ) (m' m : FinMap cell_cmp V) → len m ≡ n → Within m' m → len m' ≤ n
  within_len zero m' m e w =
      let none : m' ≡ empty = same_map cell_total cell_exact _ _ (λ q. w q (ap (λ x. get x q) (empty_of_len m e) ∙ get-empty cell_cmp q) ∙ sym (get-empty cell_cmp q)) in
      let h = ap len none ∙ len-empty cell_cmp V in omega (arith, h)
  within_len (suc n) m' m e w = go (entries m) refl (λ k less. within_len n (remove m' k) (remove m k) less (within_removed m' m k w))
    where
      go : (es : List ((ℕ × InstanceId) × V)) → entries m ≡ es → ((k : ℕ × InstanceId) → len (remove m k) ≡ n → len (remove m' k) ≤ n) → len m' ≤ suc n
      go [] is before = absurd (let h : suc n ≡ 0 = sym e ∙ len-entries m ∙ ap length is in omega (arith, h))
      go (x ∷ xs) is before =
          let h = before x.0 (taken m x.0 x.1 (first_at m x xs is) n e) in
          let g = removed_less m' x.0 in omega (arith, h, g)

  -- cells that are taken out leave fewer
  pub fewer_kept : (m m' : FinMap cell_cmp V) (keep : ℕ → InstanceId → V → Bool) → ((n : ℕ) (i : InstanceId) → get m' (n, i) ≡ kept_if (keep n i) (get m (n, i))) → len m' ≤ len m
  fewer_kept m m' keep h = within_len (len m) m' m refl (λ q none. h q.0 q.1 ∙ ap (kept_if (keep q.0 q.1)) none)

-- a clause of an Ok answer, from two others
pub both_ok : {X E : Type 0} {P Q R : X → Type 0} → (r : Result X E) → ((x : X) → P x → Q x → R x) → IfOk r P → IfOk r Q → IfOk r R
both_ok (Ok x) f p q = f x p q
both_ok (Err e) f p q = p
