-- What is found by hash, in order.
use Rattle.std.specs.Prelude.{◌≡◌, Bool, true, false, cond, ◌&&◌, T, List, [], ◌∷◌, map, length, None, Some, refl}
use denote.Ref.{Bor}
use Rattle.std.specs.Option.{option_or}
use Rattle.std.specs.List.{AllByRecursion, IsDistinct}
use Rattle.std.specs.List.Sorted.{IsStrictlySortedBy}
use Rattle.std.specs.Map.{keys_of}
use Rattle.std.specs.Ordering.{is_lt, eq_by_cmp, match_ordering}
use Rattle.std.specs.declared.cmp.Ordering.{Ordering}
use Rattle.std.specs.declared.cmp.Ordering.TheVariants.{Less, Equal, Greater}
use Rattle.std.specs.BTreeMap.{insert_entry}
use Rattle.std.specs.FinMap.{FinMap, get, insert, empty, entries, entries_sorted, from_entries, find, put, is_sorted, same_map, get-insert, get-empty, get-entries, get-from_entries, len-entries, len-empty}
use Rattle.std.specs.FinMap.Entries.{by_order, below_all, same_entries, find-put}
use Rattle.std.proofs.Common.{arith, ap, sym, ◌∙◌}
use Rattle.std.proofs.lemmas.Map.Keys.{IsDistinct-head, IsDistinct-tail}
use Rattle.opa_cells.specs.declared.instance.InstanceId.{InstanceId}
use Rattle.opa_cells.specs.Instances.{instance_cmp}
use Rattle.std.specs.Cmp.{IsTotalOrder}
use Rattle.std.proofs.lemmas.Map.Lookups.{CmpEqualImpliesEq}
use Rattle.std.proofs.lemmas.Map.Views.{tells_apart}
use Rattle.opa_cells.specs.Rows.{insert_each, seen_in, tree_map}
use Rattle.opa_cells.proofs.Orders.{instance_exact, instance_total}
use Rattle.opa_cells.proofs.Rowed.{or_none}
use Rattle.opa_cells.proofs.Inner.{equal, hash_distinct}

no_length : {A : Type 0} (xs : List A) → length xs ≡ 0 → xs ≡ []
no_length [] h = refl
no_length (x ∷ xs) h = absurd (omega (arith, h))

abbrev pub seen_cmp : {K : Type 0} → (K → K → Ordering) → Bor K → Bor K → Ordering
seen_cmp R i j = R i.now j.now

lesser_so : (o : Ordering) → o ≡ Less → T (is_lt o)
lesser_so Less h = tt
lesser_so Equal h = absurd (cc h)
lesser_so Greater h = absurd (cc h)

both : (a b : Bool) → T a → T b → T (a && b)
both true b x y = y
both false b x y = absurd x

module _ {K V : Type 0} (R : K → K → Ordering) where
  pub empty_entries : entries (empty {X = V} {R = R}) ≡ []
  empty_entries = no_length (entries (empty {X = V} {R = R})) (sym (len-entries (empty {X = V} {R = R})) ∙ len-empty R V)

  none_found : (k : K) (es : List (K × V)) → AllByRecursion (λ y. eq_by_cmp R k y ≡ false) (keys_of es) → find R k es ≡ None
  none_found k [] h = refl
  none_found k (e ∷ es) h = ap (λ b. cond b (Some e.1) (find R k es)) h.0 ∙ none_found k es h.1

  -- no entry has the key of the first
  pub none_like : (e : K × V) (es : List (K × V)) → IsDistinct (eq_by_cmp R) (keys_of (e ∷ es)) → find R e.0 es ≡ None
  none_like e es d = none_found e.0 es (IsDistinct-head (eq_by_cmp R) e.0 (keys_of es) d)

  below_seen : (i : Bor K) (ts : List (Bor K × Bor V)) → AllByRecursion (λ j. seen_cmp R i j ≡ Less) (keys_of ts) → T (below_all R i.now (map seen_in ts))
  below_seen i [] h = tt
  below_seen i (t ∷ ts) h = both _ _ (lesser_so (R i.now t.0.now) h.0) (below_seen i ts h.1)

  sorted_seen : (ts : List (Bor K × Bor V)) → IsStrictlySortedBy (seen_cmp R) (keys_of ts) → T (is_sorted R (map seen_in ts))
  unfolding IsStrictlySortedBy
  sorted_seen [] h = tt
  sorted_seen (t ∷ ts) h = both _ _ (below_seen t.0 ts h.0) (sorted_seen ts h.1)

  pub put_seen : (i : Bor K) (v : Bor V) (ts : List (Bor K × Bor V)) → map seen_in (insert_entry (seen_cmp R) ts i v) ≡ put R i.now v.now (map seen_in ts)
  put_seen i v [] = refl
  put_seen i v (t ∷ ts) = elim (R i.now t.0.now) as (λ o. map seen_in (match_ordering o ((i, v) ∷ t ∷ ts) ((t.0, v) ∷ ts) (t ∷ insert_entry (seen_cmp R) ts i v)) ≡ by_order o ((i.now, v.now) ∷ map seen_in (t ∷ ts)) ((t.0.now, v.now) ∷ map seen_in ts) (seen_in t ∷ put R i.now v.now (map seen_in ts))) [
    | Less ↦ refl
    | Equal ↦ refl
    | Greater ↦ ap (λ es. seen_in t ∷ es) (put_seen i v ts)
  ]

  module _ (total : IsTotalOrder R) (exact : CmpEqualImpliesEq R) where
    get_each : (m : FinMap R V) (es : List (K × V)) → IsDistinct (eq_by_cmp R) (keys_of es) → (q : K) → get (insert_each m es) q ≡ option_or (find R q es) (get m q)
    get_each m [] d q = refl
    get_each m (e ∷ es) d q =
        get_each (insert m e.0 e.1) es (IsDistinct-tail (eq_by_cmp R) e.0 (keys_of es) d) q
        ∙ ap (option_or (find R q es)) (get-insert total m e.0 e.1 q)
        ∙ elim (eq_by_cmp R q e.0) as (λ b. eq_by_cmp R q e.0 ≡ b → option_or (find R q es) (cond b (Some e.1) (get m q)) ≡ option_or (cond b (Some e.1) (find R q es)) (get m q)) [
          | true ↦ λ h. ap (λ o. option_or o (Some e.1)) (ap (λ k. find R k es) (tells_apart exact q e.0 h) ∙ none_like e es d)
          | false ↦ λ _. refl
        ] refl

    -- a map, as its entries come one after another
    pub all_each : (es : List (K × V)) → IsDistinct (eq_by_cmp R) (keys_of es) → insert_each empty es ≡ from_entries {R = R} es
    all_each es d = same_map total exact _ _ (λ q.
        get_each empty es d q ∙ ap (option_or (find R q es)) (get-empty R q) ∙ or_none (find R q es) ∙ sym (get-from_entries total es q))

    pub tree_put : (ts ts' : List (Bor K × Bor V)) (i : Bor K) (v : Bor V) → ts' ≡ insert_entry (seen_cmp R) ts i v → tree_map R ts' ≡ insert (tree_map R ts) i.now v.now
    tree_put ts ts' i v is = ap (tree_map R) is ∙ same_map total exact _ _ (λ q.
        get-from_entries total (map seen_in (insert_entry (seen_cmp R) ts i v)) q ∙ ap (find R q) (put_seen i v ts) ∙ find-put R total q i.now v.now (map seen_in ts)
        ∙ ap (cond (eq_by_cmp R q i.now) (Some v.now)) (sym (get-from_entries total (map seen_in ts) q)) ∙ sym (get-insert total (tree_map R ts) i.now v.now q))

    -- a tree has the entries of its map
    pub tree_entries : (ts : List (Bor K × Bor V)) → IsStrictlySortedBy (seen_cmp R) (keys_of ts) → map seen_in ts ≡ entries (tree_map R ts)
    tree_entries ts sorted = same_entries R total exact (map seen_in ts) (entries (tree_map R ts)) (sorted_seen ts sorted) (entries_sorted (tree_map R ts)) (λ q.
        sym (get-from_entries total (map seen_in ts) q) ∙ get-entries (tree_map R ts) q)

module _ {V : Type 0} where
  -- a row, as its cells come one after another
  pub row_each : (es : List (InstanceId × V)) → IsDistinct equal (keys_of es) → insert_each empty es ≡ from_entries {R = instance_cmp} es
  row_each es d = all_each instance_cmp instance_total instance_exact es (hash_distinct es d)
