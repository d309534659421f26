-- The entries of a map from names, as a finite map.
use Rattle.std.specs.Prelude.{◌≡◌, ℕ, cond, List, [], ◌∷◌, length, Option, None, Some, refl}
use Rattle.std.specs.List.{AllByRecursion}
use Rattle.std.specs.List.Sorted.{IsStrictlySortedBy}
use Rattle.std.specs.Map.{lookup, keys_of}
use Rattle.std.specs.Ordering.{nat_cmp, is_eq, eq_by_cmp}
use Rattle.std.specs.declared.cmp.Ordering.TheVariants.{Less}
use Rattle.std.specs.Cmp.{eq_by_cmp_equiv}
use Rattle.std.specs.Cmp.Lexicographic.{slice_cmp, nat_list_cmp_total}
use Rattle.std.specs.FinMap.{get, insert, remove, entries, len, find, put, from_entries, same_map, empty, get-insert, get-remove, get-from_entries, len-entries, len-empty, entries-insert}
use Rattle.std.specs.FinMap.Entries.{by_order}
use Rattle.std.specs.BTreeMap.{is_at}
use Rattle.std.proofs.Common.{ap, sym, ◌∙◌}
use Rattle.std.proofs.lemmas.Map.Lookups.{exact_bytes}
use Rattle.opa_io.proofs.Lists.{no_length}

abbrev Name : Type 0
Name = List ℕ

turned : (k q : Name) → is_at (slice_cmp nat_cmp k) q ≡ eq_by_cmp (slice_cmp nat_cmp) q k
turned k q = (eq_by_cmp_equiv nat_list_cmp_total).symm k q

module _ {V : Type 0} where
  empty_entries : entries (empty {X = V} {R = slice_cmp nat_cmp}) ≡ []
  empty_entries = no_length (entries (empty {X = V} {R = slice_cmp nat_cmp})) (sym (len-entries (empty {X = V} {R = slice_cmp nat_cmp})) ∙ len-empty (slice_cmp nat_cmp) V)

  put_front : (k : Name) (v : V) (es : List (Name × V)) → AllByRecursion (λ j. slice_cmp nat_cmp k j ≡ Less) (keys_of es) → put (slice_cmp nat_cmp) k v es ≡ (k, v) ∷ es
  put_front k v [] h = refl
  put_front k v (x ∷ xs) h = ap (λ o. by_order o ((k, v) ∷ x ∷ xs) ((x.0, v) ∷ xs) (x ∷ put (slice_cmp nat_cmp) k v xs)) h.0

  sorted_entries : (es : List (Name × V)) → IsStrictlySortedBy (slice_cmp nat_cmp) (keys_of es) → entries (from_entries {R = slice_cmp nat_cmp} es) ≡ es
  unfolding IsStrictlySortedBy
  sorted_entries [] s = empty_entries
  sorted_entries (e ∷ es) s =
      entries-insert nat_list_cmp_total (from_entries es) e.0 e.1 ∙ ap (put (slice_cmp nat_cmp) e.0 e.1) (sorted_entries es s.1) ∙ put_front e.0 e.1 es s.0

  pub counted : (es : List (Name × V)) → IsStrictlySortedBy (slice_cmp nat_cmp) (keys_of es) → length es ≡ len (from_entries {R = slice_cmp nat_cmp} es)
  counted es s = ap length (sym (sorted_entries es s)) ∙ sym (len-entries (from_entries {R = slice_cmp nat_cmp} es))

  looked : (es : List (Name × V)) (q : Name) → find (slice_cmp nat_cmp) q es ≡ lookup (is_at (slice_cmp nat_cmp q)) es
  looked [] q = refl
  looked (e ∷ es) q = ap (λ o. cond (is_eq (slice_cmp nat_cmp q e.0)) (Some e.1) o) (looked es q)

  pub got : (es : List (Name × V)) (q : Name) → get (from_entries {R = slice_cmp nat_cmp} es) q ≡ lookup (is_at (slice_cmp nat_cmp q)) es
  got es q = get-from_entries nat_list_cmp_total es q ∙ looked es q

  -- what became of the entries, where one name was set or taken out
  abbrev Sets : Name → Option V → List (Name × V) → List (Name × V) → Type 0
  Sets k w es fs = (q : Name) → lookup (is_at (slice_cmp nat_cmp q)) fs ≡ cond (is_at (slice_cmp nat_cmp k) q) w (lookup (is_at (slice_cmp nat_cmp q)) es)

  sets : (k : Name) (w : Option V) (es fs : List (Name × V)) → Sets k w es fs → (q : Name)
      → get (from_entries {R = slice_cmp nat_cmp} fs) q ≡ cond (eq_by_cmp (slice_cmp nat_cmp) q k) w (get (from_entries {R = slice_cmp nat_cmp} es) q)
  sets k w es fs h q = got fs q ∙ h q ∙ ap (λ b. cond b w (lookup (is_at (slice_cmp nat_cmp q)) es)) (turned k q) ∙ ap (cond (eq_by_cmp (slice_cmp nat_cmp) q k) w) (sym (got es q))

  pub inserted : (k : Name) (v : V) (es fs : List (Name × V)) → Sets k (Some v) es fs → from_entries {R = slice_cmp nat_cmp} fs ≡ insert (from_entries es) k v
  inserted k v es fs h = same_map nat_list_cmp_total exact_bytes _ _ (λ q. sets k (Some v) es fs h q ∙ sym (get-insert nat_list_cmp_total (from_entries es) k v q))

  pub taken : (k : Name) (es fs : List (Name × V)) → Sets k None es fs → from_entries {R = slice_cmp nat_cmp} fs ≡ remove (from_entries es) k
  taken k es fs h = same_map nat_list_cmp_total exact_bytes _ _ (λ q. sets k None es fs h q ∙ sym (get-remove nat_list_cmp_total (from_entries es) k q))
