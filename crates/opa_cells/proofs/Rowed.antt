-- What rows have at a key.
use Rattle.std.specs.Prelude.{◌≡◌, ℕ, Bool, true, false, cond, ◌==◌, ◌&&◌, not, List, [], ◌∷◌, Option, None, Some, Result, Ok, Err, IfOk, OnOk, OnErr, IsSome, IsNone, refl}
use Rattle.std.specs.Option.{option_and_then, option_or}
use Rattle.std.specs.Map.{lookup}
use Rattle.std.specs.Ordering.{nat_cmp, is_eq, eq_by_cmp, ordering_then}
use Rattle.std.specs.declared.cmp.Ordering.{Ordering}
use Rattle.std.specs.declared.cmp.Ordering.TheVariants.{Less, Equal, Greater}
use Rattle.std.specs.Cmp.{eq_by_cmp_equiv, nat_cmp_total, nat_eq_equiv}
use Rattle.std.proofs.lemmas.Map.Lookups.{exact_unsigned}
use Rattle.std.proofs.lemmas.Map.Views.{tells_apart, exact_unsigned_eq}
use mathlib.Core.Bool.{true≢false}
use Rattle.std.specs.FinMap.{FinMap, empty, entries, find, get, insert, remove, retain_keys, get-entries, get-insert, get-remove, get-empty, same_map}
use Rattle.std.specs.BTreeMap.{is_at}
use Rattle.std.specs.Map.Calls.{RetainsPairs}
use Rattle.std.specs.List.{AllByRecursion, IsDistinct}
use Rattle.std.specs.Map.{keys_of}
use Rattle.std.proofs.lemmas.Map.Keys.{IsDistinct-head, IsDistinct-tail}
use Rattle.std.proofs.Common.{ap, sym, subst, ◌∙◌}
use Rattle.opa_cells.specs.declared.instance.InstanceId.{InstanceId}
use Rattle.opa_cells.specs.Instances.{instance_cmp, is_same, global, named}
use Rattle.opa_cells.specs.Keys.{cell_cmp}
use Rattle.std.specs.Cmp.Lexicographic.{slice_cmp}
use Rattle.std.specs.Prelude.{length, nat_eq}
use Rattle.std.proofs.Common.{tests, rules}
use Rattle.opa_cells.specs.Rows.{with_cells, with_rows, cell, SetsCell, kept_if}
use Rattle.opa_cells.proofs.Orders.{instance_exact, instance_total, cell_exact, cell_total, get_kept}

pub parts : (a b : Ordering) → is_eq (ordering_then a b) ≡ (is_eq a && is_eq b)
parts Less b = refl
parts Equal b = refl
parts Greater b = refl

split : {V : Type 0} (a b : Bool) (v : V) (c o : Option V) → cond (a && b) (Some v) (cond a (option_or c o) o) ≡ cond a (option_or (cond b (Some v) c) o) o
split true true v c o = refl
split true false v c o = refl
split false b v c o = refl

pub or_none : {V : Type 0} (o : Option V) → option_or o None ≡ o
or_none None = refl
or_none (Some v) = refl

same_number : (a b : ℕ) → a ≡ b → (a == b) ≡ true
same_number a b e = subst (λ x. (a == x) ≡ true) e (nat_eq_equiv.refl a)

module _ {V : Type 0} where
  -- what rows have at a number and an instance
  abbrev pub in_rows : List (ℕ × FinMap instance_cmp V) → ℕ → InstanceId → Option V
  in_rows rs n i = option_and_then (λ row. get row i) (lookup (is_at (nat_cmp n)) rs)

  pub get-cells : (n : ℕ) (es : List (InstanceId × V)) (m : FinMap cell_cmp V) (q : ℕ) (i : InstanceId) → get (with_cells n es m) (q, i) ≡ cond (is_eq (nat_cmp q n)) (option_or (cell es i) (get m (q, i))) (get m (q, i))
  get-cells n [] m q i = elim (is_eq (nat_cmp q n)) as (λ b. get m (q, i) ≡ cond b (get m (q, i)) (get m (q, i))) [ true ↦ refl | false ↦ refl ]
  get-cells n (e ∷ es) m q i =
      get-insert cell_total (with_cells n es m) (n, e.0) e.1 (q, i)
      ∙ ap (λ b. cond b (Some e.1) (get (with_cells n es m) (q, i))) (parts (nat_cmp q n) (instance_cmp i e.0))
      ∙ ap (cond (is_eq (nat_cmp q n) && is_eq (instance_cmp i e.0)) (Some e.1)) (get-cells n es m q i)
      ∙ split (is_eq (nat_cmp q n)) (is_eq (instance_cmp i e.0)) e.1 (cell es i) (get m (q, i))

  pub cell_find : (es : List (InstanceId × V)) (i : InstanceId) → cell es i ≡ find instance_cmp i es
  cell_find [] i = refl
  cell_find (e ∷ es) i = ap (cond (is_at (instance_cmp i) e.0) (Some e.1)) (cell_find es i)

  pub cell_entries : (row : FinMap instance_cmp V) (i : InstanceId) → cell (entries row) i ≡ get row i
  cell_entries row i = cell_find (entries row) i ∙ sym (get-entries row i)

  pub get-row : (n : ℕ) (row : FinMap instance_cmp V) (m : FinMap cell_cmp V) (q : ℕ) (i : InstanceId) → get (with_cells n (entries row) m) (q, i) ≡ cond (is_eq (nat_cmp q n)) (option_or (get row i) (get m (q, i))) (get m (q, i))
  get-row n row m q i = get-cells n (entries row) m q i ∙ ap (λ c. cond (is_eq (nat_cmp q n)) (option_or c (get m (q, i))) (get m (q, i))) (cell_entries row i)

  pub get-rows : (rs : List (ℕ × FinMap instance_cmp V)) (n : ℕ) (i : InstanceId) → get (with_rows rs) (n, i) ≡ in_rows rs n i
  get-rows [] n i = get-empty cell_cmp (n, i)
  get-rows (r ∷ rs) n i =
      get-row r.0 r.1 (retain_keys (with_rows rs) (λ k. not (k.0 == r.0))) n i
      ∙ ap (λ o. cond (is_eq (nat_cmp n r.0)) (option_or (get r.1 i) o) o) (get_kept cell_exact (with_rows rs) (λ k. not (k.0 == r.0)) (n, i) ∙ ap (λ o. cond (not (n == r.0)) o None) (get-rows rs n i))
      ∙ elim (is_eq (nat_cmp n r.0)) as (λ b. is_eq (nat_cmp n r.0) ≡ b → cond b (option_or (get r.1 i) (cond (not (n == r.0)) (in_rows rs n i) None)) (cond (not (n == r.0)) (in_rows rs n i) None) ≡ option_and_then (λ row. get row i) (cond b (Some r.1) (lookup (is_at (nat_cmp n)) rs))) [
        | true ↦ λ e. ap (λ t. option_or (get r.1 i) (cond (not t) (in_rows rs n i) None)) (same_number n r.0 (tells_apart exact_unsigned n r.0 e)) ∙ or_none (get r.1 i)
        | false ↦ λ e. elim (n == r.0) as (λ t. (n == r.0) ≡ t → cond (not t) (in_rows rs n i) None ≡ in_rows rs n i) [
          | true ↦ λ t. absurd (true≢false (sym (subst (λ m. is_eq (nat_cmp n m) ≡ true) (exact_unsigned_eq n r.0 t) ((eq_by_cmp_equiv nat_cmp_total).refl n)) ∙ e))
          | false ↦ λ _. refl
        ] refl
      ] refl

  pub same_rows : (rs rs' : List (ℕ × FinMap instance_cmp V)) → ((n : ℕ) (i : InstanceId) → in_rows rs' n i ≡ in_rows rs n i) → with_rows rs' ≡ with_rows rs
  same_rows rs rs' h = same_map cell_total cell_exact _ _ (λ q. get-rows rs' q.0 q.1 ∙ h q.0 q.1 ∙ sym (get-rows rs q.0 q.1))

  -- rows in which one has changed at one instance
  pub changed : (rs rs' : List (ℕ × FinMap instance_cmp V)) (n : ℕ) (i : InstanceId) (row : FinMap instance_cmp V) (w : Option V)
      → ((q : ℕ) → lookup (is_at (nat_cmp q)) rs' ≡ cond (is_at (nat_cmp n) q) (Some row) (lookup (is_at (nat_cmp q)) rs))
      → ((j : InstanceId) → get row j ≡ cond (is_at (instance_cmp i) j) w (in_rows rs n j))
      → (q : ℕ) (j : InstanceId) → in_rows rs' q j ≡ cond (eq_by_cmp cell_cmp (n, i) (q, j)) w (in_rows rs q j)
  changed rs rs' n i row w outer inner q j =
      ap (option_and_then (λ r. get r j)) (outer q)
      ∙ elim (is_at (nat_cmp n) q) as (λ b. is_at (nat_cmp n) q ≡ b → option_and_then (λ r. get r j) (cond b (Some row) (lookup (is_at (nat_cmp q)) rs)) ≡ cond (b && is_eq (instance_cmp i j)) w (in_rows rs q j)) [
        | true ↦ λ e. inner j ∙ ap (λ m. cond (is_eq (instance_cmp i j)) w (in_rows rs m j)) (tells_apart exact_unsigned n q e)
        | false ↦ λ _. refl
      ] refl
      ∙ ap (λ b. cond b w (in_rows rs q j)) (sym (parts (nat_cmp n q) (instance_cmp i j)))

  pub inserted : (rs rs' : List (ℕ × FinMap instance_cmp V)) (n : ℕ) (i : InstanceId) (v : V) → ((q : ℕ) (j : InstanceId) → in_rows rs' q j ≡ cond (eq_by_cmp cell_cmp (n, i) (q, j)) (Some v) (in_rows rs q j)) → with_rows rs' ≡ insert (with_rows rs) (n, i) v
  inserted rs rs' n i v h = same_map cell_total cell_exact _ _ (λ q.
      get-rows rs' q.0 q.1 ∙ h q.0 q.1 ∙ ap (λ b. cond b (Some v) (in_rows rs q.0 q.1)) ((eq_by_cmp_equiv cell_total).symm (n, i) q)
      ∙ ap (cond (eq_by_cmp cell_cmp q (n, i)) (Some v)) (sym (get-rows rs q.0 q.1)) ∙ sym (get-insert cell_total (with_rows rs) (n, i) v q))

  pub removed : (rs rs' : List (ℕ × FinMap instance_cmp V)) (n : ℕ) (i : InstanceId) → ((q : ℕ) (j : InstanceId) → in_rows rs' q j ≡ cond (eq_by_cmp cell_cmp (n, i) (q, j)) None (in_rows rs q j)) → with_rows rs' ≡ remove (with_rows rs) (n, i)
  removed rs rs' n i h = same_map cell_total cell_exact _ _ (λ q.
      get-rows rs' q.0 q.1 ∙ h q.0 q.1 ∙ ap (λ b. cond b None (in_rows rs q.0 q.1)) ((eq_by_cmp_equiv cell_total).symm (n, i) q)
      ∙ ap (cond (eq_by_cmp cell_cmp q (n, i)) None) (sym (get-rows rs q.0 q.1)) ∙ sym (get-remove cell_total (with_rows rs) (n, i) q))

  -- what a row that stands has
  pub at_row : (rs : List (ℕ × FinMap instance_cmp V)) (n : ℕ) (i : InstanceId) (row : Option (FinMap instance_cmp V)) → row ≡ lookup (is_at (nat_cmp n)) rs → option_and_then (λ r. get r i) row ≡ get (with_rows rs) (n, i)
  at_row rs n i row e = ap (option_and_then (λ r. get r i)) e ∙ sym (get-rows rs n i)

  pub row_set : (rs rs' : List (ℕ × FinMap instance_cmp V)) (n : ℕ) (i : InstanceId) (row row' : FinMap instance_cmp V) (w : Option V)
      → lookup (is_at (nat_cmp n)) rs ≡ Some row
      → (IsSome (lookup (is_at (nat_cmp n)) rs) → (q : ℕ) → lookup (is_at (nat_cmp q)) rs' ≡ cond (is_at (nat_cmp n) q) (Some row') (lookup (is_at (nat_cmp q)) rs))
      → SetsCell row row' i w
      → (q : ℕ) (j : InstanceId) → in_rows rs' q j ≡ cond (eq_by_cmp cell_cmp (n, i) (q, j)) w (in_rows rs q j)
  row_set rs rs' n i row row' w at outer set =
      changed rs rs' n i row' w (outer (subst (λ o. IsSome o) (sym at) refl)) (λ j. set j ∙ ap (λ o. cond (is_at (instance_cmp i) j) w (option_and_then (λ r. get r j) o)) (sym at))

  pub row_kept : (rs rs' : List (ℕ × FinMap instance_cmp V)) (n : ℕ) (row row' : FinMap instance_cmp V)
      → lookup (is_at (nat_cmp n)) rs ≡ Some row
      → (IsSome (lookup (is_at (nat_cmp n)) rs) → (q : ℕ) → lookup (is_at (nat_cmp q)) rs' ≡ cond (is_at (nat_cmp n) q) (Some row') (lookup (is_at (nat_cmp q)) rs))
      → row' ≡ row → with_rows rs' ≡ with_rows rs
  row_kept rs rs' n row row' at outer same = same_rows rs rs' (λ q j.
      ap (option_and_then (λ r. get r j)) (outer (subst (λ o. IsSome o) (sym at) refl) q)
      ∙ elim (is_at (nat_cmp n) q) as (λ b. is_at (nat_cmp n) q ≡ b → option_and_then (λ r. get r j) (cond b (Some row') (lookup (is_at (nat_cmp q)) rs)) ≡ in_rows rs q j) [
        | true ↦ λ e. ap (λ r. get r j) same ∙ ap (option_and_then (λ r. get r j)) (sym at) ∙ ap (λ m. in_rows rs m j) (tells_apart exact_unsigned n q e)
        | false ↦ λ _. refl
      ] refl)

  pub no_row : (rs : List (ℕ × FinMap instance_cmp V)) (n : ℕ) (i : InstanceId) → lookup (is_at (nat_cmp n)) rs ≡ None → (q : ℕ) (j : InstanceId) → in_rows rs q j ≡ cond (eq_by_cmp cell_cmp (n, i) (q, j)) None (in_rows rs q j)
  no_row rs n i none q j = elim (eq_by_cmp cell_cmp (n, i) (q, j)) as (λ b. eq_by_cmp cell_cmp (n, i) (q, j) ≡ b → in_rows rs q j ≡ cond b None (in_rows rs q j)) [
    | true ↦ λ e. ap (λ m. in_rows rs m j) (sym (ap (λ (x : ℕ × InstanceId). x.0) (tells_apart cell_exact (n, i) (q, j) e))) ∙ ap (option_and_then (λ r. get r j)) none
    | false ↦ λ _. refl
  ] refl

no_cell : {V : Type 0} (o : Option (FinMap instance_cmp V)) (j : InstanceId) → IsNone o → None ≡ option_and_then (λ r. get r j) o
no_cell None j n = refl
no_cell (Some r) j n = absurd (cc n)

flipped : (i j : InstanceId) → eq_by_cmp instance_cmp j i ≡ is_at (instance_cmp i) j
flipped i j = (eq_by_cmp_equiv instance_total).symm j i

module _ {V : Type 0} where
  pub fresh : (rs : List (ℕ × FinMap instance_cmp V)) (n : ℕ) (j : InstanceId) (row : FinMap instance_cmp V) → IsNone (lookup (is_at (nat_cmp n)) rs) → row ≡ empty → get row j ≡ in_rows rs n j
  fresh rs n j row none new = ap (λ r. get r j) new ∙ get-empty instance_cmp j ∙ no_cell (lookup (is_at (nat_cmp n)) rs) j none

  pub set_inserted : (row row' : FinMap instance_cmp V) (i : InstanceId) (v : V) → row' ≡ insert row i v → SetsCell row row' i (Some v)
  set_inserted row row' i v is j = ap (λ r. get r j) is ∙ get-insert instance_total row i v j ∙ ap (λ b. cond b (Some v) (get row j)) (flipped i j)

  pub set_removed : (row row' : FinMap instance_cmp V) (i : InstanceId) → row' ≡ remove row i → SetsCell row row' i None
  set_removed row row' i is j = ap (λ r. get r j) is ∙ get-remove instance_total row i j ∙ ap (λ b. cond b None (get row j)) (flipped i j)

pub if_ok : {X E : Type 0} {P Q : X → Type 0} → (r : Result X E) → ((x : X) → P x → Q x) → IfOk r P → IfOk r Q
if_ok (Ok x) f h = f x h
if_ok (Err e) f h = h

pub on_ok : {X E : Type 0} {P Q : Type 0} → (r : Result X E) → (P → Q) → OnOk r P → OnOk r Q
on_ok (Ok x) f h = f h
on_ok (Err e) f h = h

pub on_err : {X E : Type 0} {P Q : Type 0} → (r : Result X E) → (P → Q) → OnErr r P → OnErr r Q
on_err (Ok x) f h = h
on_err (Err e) f h = f h

pub none_after : {V : Type 0} (k : InstanceId) (es : List (InstanceId × V)) → AllByRecursion (λ y. eq_by_cmp instance_cmp k y ≡ false) (keys_of es) → cell es k ≡ None
none_after k [] h = refl
none_after k (e ∷ es) h = ap (λ b. cond b (Some e.1) (cell es k)) h.0 ∙ none_after k es h.1

nothing_kept : {V : Type 0} (p : V → Bool) (o : Option V) → o ≡ None → kept_if p o ≡ None
nothing_kept p o e = ap (kept_if p) e

-- A closure that only tests leaves the cells that pass.
pub cells_retained : {F V : Type 0} (T : F → InstanceId → V → Bool → V → F → Type 0) (keep : InstanceId → V → Bool)
    → (f : F) → ((k : InstanceId) (v : V) (b : Bool) (w : V) (f' : F) → T f k v b w f' → (b ≡ keep k v) × (w ≡ v) × (f' ≡ f))
    → (es kept : List (InstanceId × V)) → IsDistinct (eq_by_cmp instance_cmp) (keys_of es) → RetainsPairs T f es kept → (i : InstanceId) → cell kept i ≡ kept_if (keep i) (cell es i)
cells_retained T keep f says [] kept d r i = ap (λ es. cell es i) r
cells_retained T keep f says (e ∷ es) kept d (b, w, f', rest, call, more, is) i =
    let later = cells_retained T keep f says es rest (IsDistinct-tail (eq_by_cmp instance_cmp) e.0 (keys_of es) d) (subst (λ h. RetainsPairs T h es rest) (says e.0 e.1 b w f' call).2 more) i in
    let told = says e.0 e.1 b w f' call in
    ap (λ es. cell es i) is ∙ ap (λ t. cell (cond t ((e.0, w) ∷ rest) rest) i) told.0 ∙ ap (λ x. cell (cond (keep e.0 e.1) ((e.0, x) ∷ rest) rest) i) told.1
    ∙ elim (is_at (instance_cmp i) e.0) as (λ t. is_at (instance_cmp i) e.0 ≡ t → cell (cond (keep e.0 e.1) ((e.0, e.1) ∷ rest) rest) i ≡ kept_if (keep i) (cond t (Some e.1) (cell es i))) [
      | true ↦ λ at.
          let same = tells_apart instance_exact i e.0 at in
          let gone : cell es i ≡ None = ap (cell es) same ∙ none_after e.0 es (IsDistinct-head (eq_by_cmp instance_cmp) e.0 (keys_of es) d) in
          elim (keep e.0 e.1) as (λ k. keep e.0 e.1 ≡ k → cell (cond k ((e.0, e.1) ∷ rest) rest) i ≡ cond (keep i e.1) (Some e.1) None) [
            | true ↦ λ k. ap (λ t. cond t (Some e.1) (cell rest i)) at ∙ ap (λ t. cond t (Some e.1) None) (sym k ∙ ap (λ j. keep j e.1) (sym same))
            | false ↦ λ k. later ∙ nothing_kept (keep i) (cell es i) gone ∙ ap (λ t. cond t (Some e.1) None) (sym k ∙ ap (λ j. keep j e.1) (sym same))
          ] refl
      | false ↦ λ at.
          elim (keep e.0 e.1) as (λ k. cell (cond k ((e.0, e.1) ∷ rest) rest) i ≡ kept_if (keep i) (cell es i)) [
            | true ↦ ap (λ t. cond t (Some e.1) (cell rest i)) at ∙ later
            | false ↦ later
          ]
    ] refl

-- A closure that stays true and thins each row leaves the cells that pass.
pub rows_retained : {F V : Type 0} (T : F → ℕ → FinMap instance_cmp V → Bool → FinMap instance_cmp V → F → Type 0) (keep : ℕ → InstanceId → V → Bool)
    → (f : F) → ((n : ℕ) (v : FinMap instance_cmp V) (b : Bool) (w : FinMap instance_cmp V) (f' : F) → T f n v b w f' → (b ≡ true) × ((i : InstanceId) → get w i ≡ kept_if (keep n i) (get v i)) × (f' ≡ f))
    → (rs kept : List (ℕ × FinMap instance_cmp V)) → RetainsPairs T f rs kept → (n : ℕ) (i : InstanceId) → in_rows kept n i ≡ kept_if (keep n i) (in_rows rs n i)
rows_retained T keep f says [] kept r n i = ap (λ rs. in_rows rs n i) r
rows_retained T keep f says (e ∷ rs) kept (b, w, f', rest, call, more, is) n i =
    let told = says e.0 e.1 b w f' call in
    ap (λ rs. in_rows rs n i) (is ∙ ap (λ t. cond t ((e.0, w) ∷ rest) rest) told.0)
    ∙ elim (is_at (nat_cmp n) e.0) as (λ t. is_at (nat_cmp n) e.0 ≡ t → option_and_then (λ r. get r i) (cond t (Some w) (lookup (is_at (nat_cmp n)) rest)) ≡ kept_if (keep n i) (option_and_then (λ r. get r i) (cond t (Some e.1) (lookup (is_at (nat_cmp n)) rs)))) [
      | true ↦ λ at. told.1 i ∙ ap (λ m. kept_if (keep m i) (get e.1 i)) (sym (tells_apart exact_unsigned n e.0 at))
      | false ↦ λ _. rows_retained T keep f says rs rest (subst (λ h. RetainsPairs T h rs rest) told.2 more) n i
    ] refl

empty_test : (n : List ℕ) → nat_eq (length n) 0 ≡ is_eq (slice_cmp nat_cmp n [])
empty_test [] = refl
empty_test (b ∷ bs) = search (tests, rules)

pub global_test : (i : InstanceId) → i.entity.0 ≡ 0 → nat_eq (length i.name) 0 ≡ is_same i global
global_test i e =
    empty_test i.name
    ∙ ap (λ b. b && is_eq (slice_cmp nat_cmp i.name [])) (sym (subst (λ m. is_eq (nat_cmp i.entity.0 m) ≡ true) e ((eq_by_cmp_equiv nat_cmp_total).refl i.entity.0)))
    ∙ sym (parts (nat_cmp i.entity.0 0) (slice_cmp nat_cmp i.name []))

same_truth : (a b : Bool) → (a ≡ true → b ≡ true) → (b ≡ true → a ≡ true) → a ≡ b
same_truth true b f g = sym (f refl)
same_truth false true f g = g refl
same_truth false false f g = refl

pub named_test : (e : ℕ) (n : List ℕ) (i : InstanceId) (b : Bool) → i.entity.0 ≡ e → (b ≡ true → n ≡ i.name) → (n ≡ i.name → b ≡ true) → b ≡ is_same (named e n) i
named_test e n i b at to from = same_truth b (is_same (named e n) i)
    (λ h. subst (λ (j : InstanceId). is_same (named e n) j ≡ true) (λ k. record { entity = record { 0 = sym at k }; name = to h k }) ((eq_by_cmp_equiv instance_total).refl (named e n)))
    (λ h. from (ap (λ (j : InstanceId). j.name) (tells_apart instance_exact (named e n) i h)))
