-- A row, whose cells are found by hash.
use Rattle.std.specs.Prelude.{◌≡◌, ◌+◌, Bool, cond, ◌&&◌, List, [], ◌∷◌, Option, None, Some, is_some, length, nat_eq}
use Rattle.std.specs.List.{IsDistinct}
use Rattle.std.specs.Map.{lookup, keys_of}
use Rattle.std.specs.Ordering.{nat_cmp, is_eq, eq_by_cmp}
use Rattle.std.specs.Cmp.{eq_by_cmp_equiv, unsigned_ties}
use Rattle.std.specs.Cmp.Lexicographic.{slice_cmp, pointwise, texts_ties}
use Rattle.std.specs.FinMap.{FinMap, get, insert, remove, len, from_entries, same_map, get-insert, get-remove, get-from_entries, len-insert, len-empty}
use Rattle.std.proofs.Common.{arith, ap, sym, subst, ◌∙◌}
use Rattle.std.proofs.lemmas.Map.Keys.{IsDistinct-head, IsDistinct-tail}
use Rattle.opa_cells.specs.declared.instance.InstanceId.{InstanceId}
use Rattle.opa_cells.specs.Instances.{instance_cmp, is_same}
use Rattle.opa_cells.specs.Rows.{cell, kept_if}
use Rattle.opa_cells.proofs.Orders.{instance_exact, instance_total}
use Rattle.opa_cells.proofs.Rowed.{parts, cell_find, none_after}

-- what `==` answers
abbrev pub equal : InstanceId → InstanceId → Bool
equal i j = nat_eq i.entity.0 j.entity.0 && pointwise nat_eq i.name j.name

pub equal_same : (i j : InstanceId) → equal i j ≡ is_same i j
equal_same i j =
    ap (λ b. b && pointwise nat_eq i.name j.name) (unsigned_ties i.entity.0 j.entity.0) ∙ ap (λ b. is_eq (nat_cmp i.entity.0 j.entity.0) && b) (texts_ties i.name j.name)
    ∙ sym (parts (nat_cmp i.entity.0 j.entity.0) (slice_cmp nat_cmp i.name j.name))

turned : (i j : InstanceId) → is_same i j ≡ is_same j i
turned i j = (eq_by_cmp_equiv instance_total).symm i j

module _ {V : Type 0} where
  -- what a look-up by hash finds
  pub found : (es : List (InstanceId × V)) (i : InstanceId) → lookup (equal i) es ≡ cell es i
  found es i = ap (λ t. lookup t es) (λ k j. equal_same i j k)

  pub got : (es : List (InstanceId × V)) (q : InstanceId) → get (from_entries {R = instance_cmp} es) q ≡ cell es q
  got es q = get-from_entries instance_total es q ∙ sym (cell_find es q)

  -- the value that a look-up by hash finds
  pub got_by : (es : List (InstanceId × V)) (q : InstanceId) → lookup (equal q) es ≡ get (from_entries {R = instance_cmp} es) q
  got_by es q = found es q ∙ sym (got es q)

  -- entries that have w at an instance, and at each other what others have
  abbrev pub SetsOther : List (InstanceId × V) → List (InstanceId × V) → InstanceId → Option V → Type 0
  SetsOther es es' i w = (j : InstanceId) → cell es' j ≡ cond (is_same j i) w (cell es j)

  put_so : (es es' : List (InstanceId × V)) (i : InstanceId) (v : V) → SetsOther es es' i (Some v) → from_entries {R = instance_cmp} es' ≡ insert (from_entries es) i v
  put_so es es' i v set = same_map instance_total instance_exact _ _ (λ q.
      got es' q ∙ set q ∙ ap (cond (is_same q i) (Some v)) (sym (got es q)) ∙ sym (get-insert instance_total (from_entries es) i v q))

  taken_so : (es es' : List (InstanceId × V)) (i : InstanceId) → SetsOther es es' i None → from_entries {R = instance_cmp} es' ≡ remove (from_entries es) i
  taken_so es es' i set = same_map instance_total instance_exact _ _ (λ q.
      got es' q ∙ set q ∙ ap (cond (is_same q i) None) (sym (got es q)) ∙ sym (get-remove instance_total (from_entries es) i q))

  -- what a map by hash says of a change
  pub hash_sets : (es es' : List (InstanceId × V)) (i : InstanceId) (w : Option V) → ((q : InstanceId) → lookup (equal q) es' ≡ cond (equal i q) w (lookup (equal q) es)) → SetsOther es es' i w
  hash_sets es es' i w set q = sym (found es' q) ∙ set q ∙ ap (λ b. cond b w (lookup (equal q) es)) (equal_same i q ∙ turned i q) ∙ ap (cond (is_same q i) w) (found es q)

  pub hash_distinct : (es : List (InstanceId × V)) → IsDistinct equal (keys_of es) → IsDistinct (eq_by_cmp instance_cmp) (keys_of es)
  hash_distinct es d = subst (λ t. IsDistinct t (keys_of es)) (λ k i j. equal_same i j k) d

  len_all : (es : List (InstanceId × V)) → IsDistinct (eq_by_cmp instance_cmp) (keys_of es) → len (from_entries {R = instance_cmp} es) ≡ length es
  len_all [] d = len-empty instance_cmp V
  len_all (e ∷ es) d =
      let m : FinMap instance_cmp V = from_entries es in
      let none : get m e.0 ≡ None = get-from_entries instance_total es e.0 ∙ sym (cell_find es e.0) ∙ none_after e.0 es (IsDistinct-head (eq_by_cmp instance_cmp) e.0 (keys_of es) d) in
      let more = len-insert instance_total m e.0 e.1 ∙ ap (λ o. cond (is_some o) (len m) (len m + 1)) none in
      let rest = len_all es (IsDistinct-tail (eq_by_cmp instance_cmp) e.0 (keys_of es) d) in
      omega (arith, more, rest)

  pub cells_put : (es es' : List (InstanceId × V)) (i : InstanceId) (v : V) → ((q : InstanceId) → lookup (equal q) es' ≡ cond (equal i q) (Some v) (lookup (equal q) es)) → from_entries {R = instance_cmp} es' ≡ insert (from_entries es) i v
  cells_put es es' i v set = put_so es es' i v (hash_sets es es' i (Some v) set)

  pub cells_taken : (es es' : List (InstanceId × V)) (i : InstanceId) → ((q : InstanceId) → lookup (equal q) es' ≡ cond (equal i q) None (lookup (equal q) es)) → from_entries {R = instance_cmp} es' ≡ remove (from_entries es) i
  cells_taken es es' i set = taken_so es es' i (hash_sets es es' i None set)

  -- how many cells a row has
  pub row_len : (es : List (InstanceId × V)) → IsDistinct equal (keys_of es) → len (from_entries {R = instance_cmp} es) ≡ length es
  row_len es d = len_all es (hash_distinct es d)

  -- what stays of a row
  pub row_retained : (keep : InstanceId → V → Bool) (es es' : List (InstanceId × V)) → ((i : InstanceId) → cell es' i ≡ kept_if (keep i) (cell es i)) → (i : InstanceId) → get (from_entries {R = instance_cmp} es') i ≡ kept_if (keep i) (get (from_entries {R = instance_cmp} es) i)
  row_retained keep es es' h i = got es' i ∙ h i ∙ ap (kept_if (keep i)) (sym (got es i))
