-- Rows that are found by the hash of their number: the same in order, and how many cells they have.
use Rattle.std.specs.Prelude.{◌≡◌, ◌+◌, ℕ, cond, List, [], ◌∷◌, Option, None, Some, nat_eq, refl}
use Rattle.std.specs.Option.{option_and_then}
use Rattle.std.specs.List.{IsDistinct}
use Rattle.std.specs.Map.{lookup, keys_of}
use Rattle.std.specs.Ordering.{nat_cmp, is_eq, eq_by_cmp}
use Rattle.std.specs.declared.cmp.Ordering.TheVariants.{Less, Equal, Greater}
use Rattle.std.specs.Cmp.{nat_cmp_total, eq_by_cmp_equiv, unsigned_ties}
use Rattle.std.specs.FinMap.{FinMap, get, insert, empty, entries, from_entries, find, put, len, same_map, get-insert, get-entries, get-from_entries, entries-insert}
use Rattle.std.specs.FinMap.Entries.{by_order}
use Rattle.std.specs.BTreeMap.{is_at}
use Rattle.std.proofs.Common.{arith, ap, sym, subst, ◌∙◌}
use Rattle.std.proofs.lemmas.Map.Keys.{IsDistinct-tail}
use Rattle.std.proofs.lemmas.Map.Lookups.{exact_unsigned}
use Rattle.opa_cells.specs.Instances.{instance_cmp}
use Rattle.opa_cells.specs.Rows.{with_rows, all_entries, cells_in, insert_each, by_number}
use Rattle.opa_cells.proofs.Rowed.{same_rows}
use Rattle.opa_cells.proofs.Sorted.{empty_entries, none_like, all_each}
use Rattle.opa_cells.proofs.Walked.{sorted_keys, rows_entries, rows_counted}

module _ {V : Type 0} where
  -- what a look-up by hash finds
  pub row_found : (rs : List (ℕ × FinMap instance_cmp V)) (n : ℕ) → lookup (nat_eq n) rs ≡ lookup (is_at (nat_cmp n)) rs
  row_found rs n = ap (λ t. lookup t rs) (λ k m. unsigned_ties n m k)

  -- what a map by hash says of a change
  pub rows_set : (rs rs' : List (ℕ × FinMap instance_cmp V)) (n : ℕ) (w : Option (FinMap instance_cmp V)) → ((q : ℕ) → lookup (nat_eq q) rs' ≡ cond (nat_eq n q) w (lookup (nat_eq q) rs))
      → (q : ℕ) → lookup (is_at (nat_cmp q)) rs' ≡ cond (is_at (nat_cmp n) q) w (lookup (is_at (nat_cmp q)) rs)
  rows_set rs rs' n w set q = sym (row_found rs' q) ∙ set q ∙ ap (λ b. cond b w (lookup (nat_eq q) rs)) (unsigned_ties n q) ∙ ap (cond (is_at (nat_cmp n) q) w) (row_found rs q)

  pub row_find : (rs : List (ℕ × FinMap instance_cmp V)) (n : ℕ) → lookup (is_at (nat_cmp n)) rs ≡ find nat_cmp n rs
  row_find [] n = refl
  row_find (r ∷ rs) n = ap (cond (is_at (nat_cmp n) r.0) (Some r.1)) (row_find rs n)

  row_got : (rs : List (ℕ × FinMap instance_cmp V)) (n : ℕ) → get (by_number rs) n ≡ lookup (is_at (nat_cmp n)) rs
  row_got rs n = get-from_entries nat_cmp_total rs n ∙ sym (row_find rs n)

  -- a row is put into a map by hash
  pub row_put : (rs rs' : List (ℕ × FinMap instance_cmp V)) (n : ℕ) (row : FinMap instance_cmp V) → ((q : ℕ) → lookup (nat_eq q) rs' ≡ cond (nat_eq n q) (Some row) (lookup (nat_eq q) rs)) → by_number rs' ≡ insert (by_number rs) n row
  row_put rs rs' n row set = same_map nat_cmp_total exact_unsigned _ _ (λ q.
      row_got rs' q ∙ rows_set rs rs' n (Some row) set q ∙ ap (λ b. cond b (Some row) (lookup (is_at (nat_cmp q)) rs)) ((eq_by_cmp_equiv nat_cmp_total).symm n q)
      ∙ ap (cond (eq_by_cmp nat_cmp q n) (Some row)) (sym (row_got rs q)) ∙ sym (get-insert nat_cmp_total (by_number rs) n row q))

  -- the rows in order of their numbers
  abbrev pub numbered : List (ℕ × FinMap instance_cmp V) → List (ℕ × FinMap instance_cmp V)
  numbered rs = entries (from_entries {R = nat_cmp} rs)

  same_numbered : (rs : List (ℕ × FinMap instance_cmp V)) → with_rows (numbered rs) ≡ with_rows rs
  same_numbered rs = same_rows rs (numbered rs) (λ n i. ap (option_and_then (λ (row : FinMap instance_cmp V). get row i))
      (row_find (numbered rs) n ∙ sym (get-entries (from_entries {R = nat_cmp} rs) n) ∙ get-from_entries nat_cmp_total rs n ∙ sym (row_find rs n)))

  -- rows are the same if they are as maps of their numbers
  pub rows_copied : (rs rs' : List (ℕ × FinMap instance_cmp V)) → by_number rs' ≡ by_number rs → with_rows rs' ≡ with_rows rs
  rows_copied rs rs' same = sym (same_numbered rs') ∙ ap (λ (m : FinMap nat_cmp (FinMap instance_cmp V)). with_rows (entries m)) same ∙ same_numbered rs

  pub numbered_entries : (rs : List (ℕ × FinMap instance_cmp V)) → all_entries (numbered rs) ≡ entries (with_rows rs)
  numbered_entries rs = sym (rows_entries (numbered rs) (sorted_keys nat_cmp (from_entries {R = nat_cmp} rs))) ∙ ap entries (same_numbered rs)

  pub rows_distinct : (rs : List (ℕ × FinMap instance_cmp V)) → IsDistinct nat_eq (keys_of rs) → IsDistinct (eq_by_cmp nat_cmp) (keys_of rs)
  rows_distinct rs d = subst (λ t. IsDistinct t (keys_of rs)) (λ k n m. unsigned_ties n m k) d

  -- the rows, as they come one after another
  pub rows_each : (rs : List (ℕ × FinMap instance_cmp V)) → IsDistinct nat_eq (keys_of rs) → insert_each empty rs ≡ from_entries {R = nat_cmp} rs
  rows_each rs d = all_each nat_cmp nat_cmp_total exact_unsigned rs (rows_distinct rs d)

  put_counted : (n : ℕ) (row : FinMap instance_cmp V) (rs : List (ℕ × FinMap instance_cmp V)) → find nat_cmp n rs ≡ None → cells_in (put nat_cmp n row rs) ≡ len row + cells_in rs
  put_counted n row [] none = refl
  put_counted n row (r ∷ rs) none = elim (nat_cmp n r.0) as (λ o. cond (is_eq o) (Some r.1) (find nat_cmp n rs) ≡ None → cells_in (by_order o ((n, row) ∷ r ∷ rs) ((r.0, row) ∷ rs) (r ∷ put nat_cmp n row rs)) ≡ len row + (len r.1 + cells_in rs)) [
    | Less ↦ λ _. refl
    | Equal ↦ λ h. absurd (cc h)
    | Greater ↦ λ h. let more = put_counted n row rs h in omega (arith, more)
  ] none

  numbered_counted : (rs : List (ℕ × FinMap instance_cmp V)) → IsDistinct (eq_by_cmp nat_cmp) (keys_of rs) → cells_in (numbered rs) ≡ cells_in rs
  numbered_counted [] d = ap cells_in (empty_entries {V = FinMap instance_cmp V} nat_cmp)
  numbered_counted (r ∷ rs) d =
      let m : FinMap nat_cmp (FinMap instance_cmp V) = from_entries rs in
      ap cells_in (entries-insert nat_cmp_total m r.0 r.1)
      ∙ put_counted r.0 r.1 (numbered rs) (sym (get-entries m r.0) ∙ get-from_entries nat_cmp_total rs r.0 ∙ none_like nat_cmp r rs d)
      ∙ ap (λ n. len r.1 + n) (numbered_counted rs (IsDistinct-tail (eq_by_cmp nat_cmp) r.0 (keys_of rs) d))

  -- how many cells rows have
  pub rows_len : (rs : List (ℕ × FinMap instance_cmp V)) → IsDistinct nat_eq (keys_of rs) → len (with_rows rs) ≡ cells_in rs
  rows_len rs d =
      ap len (sym (same_numbered rs)) ∙ rows_counted (numbered rs) (sorted_keys nat_cmp (from_entries {R = nat_cmp} rs)) ∙ numbered_counted rs (rows_distinct rs d)
