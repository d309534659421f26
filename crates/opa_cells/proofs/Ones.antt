-- A row as one cell and the others.
use Rattle.std.specs.Prelude.{◌≡◌, ◌+◌, Bool, true, false, cond, List, Option, None, Some, is_some, not, map, refl}
use denote.Ref.{Bor}
use Rattle.std.specs.Option.{option_map, option_copied}
use Rattle.std.specs.FinMap.{FinMap, get, insert, remove, entries, len, same_map, put, get-insert, get-remove, len-insert, entries-insert}
use Rattle.std.specs.BTreeMap.{insert_entry}
use Rattle.std.proofs.Common.{ap, sym, ◌∙◌}
use mathlib.Core.Bool.{true≢false}
use Rattle.opa_cells.specs.declared.instance.InstanceId.{InstanceId}
use Rattle.opa_cells.specs.Instances.{instance_cmp, is_same}
use Rattle.opa_cells.specs.Rows.{kept_if, with_one, holds, without, one_kept, seen_in}
use Rattle.opa_cells.proofs.Orders.{instance_exact, instance_total, same_is}
use Rattle.opa_cells.proofs.Sorted.{put_seen, seen_cmp}

not_both : (e i q : InstanceId) → is_same i e ≡ false → is_same q e ≡ true → is_same q i ≡ false
not_both e i q h a = elim (is_same q i) as (λ b. is_same q i ≡ b → b ≡ false) [
  | true ↦ λ t. absurd (true≢false (sym a ∙ ap (λ x. is_same x e) (same_is q i t) ∙ h))
  | false ↦ λ _. refl
] refl

pub some_copied : {X : Type 0} (o : Option (Bor X)) → is_some o ≡ is_some (option_copied o)
some_copied None = refl
some_copied (Some r) = refl

module _ {V : Type 0} where
  pub one_got : (o : Option (InstanceId × V)) (m : FinMap instance_cmp V) (q : InstanceId) → get (with_one o m) q ≡ cond (holds o q) (option_map (λ e. e.1) o) (get m q)
  one_got None m q = refl
  one_got (Some e) m q = get-insert instance_total m e.0 e.1 q

  pub got_held : (o : Option (InstanceId × V)) (m : FinMap instance_cmp V) (q : InstanceId) → holds o q ≡ true → option_map (λ e. e.1) o ≡ get (with_one o m) q
  got_held o m q h = sym (one_got o m q ∙ ap (λ b. cond b (option_map (λ e. e.1) o) (get m q)) h)

  pub got_other : (o : Option (InstanceId × V)) (m : FinMap instance_cmp V) (q : InstanceId) → holds o q ≡ false → get m q ≡ get (with_one o m) q
  got_other o m q h = sym (one_got o m q ∙ ap (λ b. cond b (option_map (λ e. e.1) o) (get m q)) h)

  pub held_some : (o : Option (InstanceId × V)) (m : FinMap instance_cmp V) (q : InstanceId) → holds o q ≡ true → is_some (get (with_one o m) q) ≡ true
  held_some None m q h = absurd (cc h)
  held_some (Some e) m q h = ap is_some (sym (got_held (Some e) m q h))

  -- the value of the instance that is held is another
  pub put_held : (o : Option (InstanceId × V)) (m : FinMap instance_cmp V) (i : InstanceId) (v : V) → holds o i ≡ true → insert m i v ≡ insert (with_one o m) i v
  put_held None m i v h = absurd (cc h)
  put_held (Some e) m i v h = same_map instance_total instance_exact _ _ (λ q.
      get-insert instance_total m i v q
      ∙ elim (is_same q i) as (λ b. is_same q i ≡ b → cond b (Some v) (get m q) ≡ cond b (Some v) (get (insert m e.0 e.1) q)) [
        | true ↦ λ _. refl
        | false ↦ λ a. sym (get-insert instance_total m e.0 e.1 q ∙ ap (λ b. cond b (Some e.1) (get m q)) (ap (is_same q) (sym (same_is i e.0 h)) ∙ a))
      ] refl
      ∙ sym (get-insert instance_total (insert m e.0 e.1) i v q))

  -- a cell is taken out, and put back with another value
  pub put_again : (m : FinMap instance_cmp V) (i : InstanceId) (v : V) → insert (remove m i) i v ≡ insert m i v
  put_again m i v = same_map instance_total instance_exact _ _ (λ q.
      get-insert instance_total (remove m i) i v q ∙ ap (cond (is_same q i) (Some v)) (get-remove instance_total m i q)
      ∙ elim (is_same q i) as (λ b. cond b (Some v) (cond b None (get m q)) ≡ cond b (Some v) (get m q)) [ true ↦ refl | false ↦ refl ]
      ∙ sym (get-insert instance_total m i v q))

  apart : (x y : Bool) (v w r : Option V) → (x ≡ true → y ≡ false) → cond x v (cond y w r) ≡ cond y w (cond x v r)
  apart true true v w r f = absurd (cc (f refl))
  apart true false v w r f = refl
  apart false y v w r f = refl

  pub put_other : (o : Option (InstanceId × V)) (m : FinMap instance_cmp V) (i : InstanceId) (v : V) → holds o i ≡ false → with_one o (insert m i v) ≡ insert (with_one o m) i v
  put_other None m i v h = refl
  put_other (Some e) m i v h = same_map instance_total instance_exact _ _ (λ q.
      get-insert instance_total (insert m i v) e.0 e.1 q ∙ ap (cond (is_same q e.0) (Some e.1)) (get-insert instance_total m i v q)
      ∙ apart (is_same q e.0) (is_same q i) (Some e.1) (Some v) (get m q) (not_both e.0 i q h)
      ∙ ap (cond (is_same q i) (Some v)) (sym (get-insert instance_total m e.0 e.1 q)) ∙ sym (get-insert instance_total (insert m e.0 e.1) i v q))

  pub removed_held : (o : Option (InstanceId × V)) (m : FinMap instance_cmp V) (i : InstanceId) → holds o i ≡ true → remove m i ≡ remove (with_one o m) i
  removed_held None m i h = absurd (cc h)
  removed_held (Some e) m i h = same_map instance_total instance_exact _ _ (λ q.
      get-remove instance_total m i q
      ∙ elim (is_same q i) as (λ b. is_same q i ≡ b → cond b None (get m q) ≡ cond b None (get (insert m e.0 e.1) q)) [
        | true ↦ λ _. refl
        | false ↦ λ a. sym (get-insert instance_total m e.0 e.1 q ∙ ap (λ b. cond b (Some e.1) (get m q)) (ap (is_same q) (sym (same_is i e.0 h)) ∙ a))
      ] refl
      ∙ sym (get-remove instance_total (insert m e.0 e.1) i q))

  pub removed_other : (o : Option (InstanceId × V)) (m : FinMap instance_cmp V) (i : InstanceId) → holds o i ≡ false → with_one o (remove m i) ≡ remove (with_one o m) i
  removed_other None m i h = refl
  removed_other (Some e) m i h = same_map instance_total instance_exact _ _ (λ q.
      get-insert instance_total (remove m i) e.0 e.1 q ∙ ap (cond (is_same q e.0) (Some e.1)) (get-remove instance_total m i q)
      ∙ apart (is_same q e.0) (is_same q i) (Some e.1) None (get m q) (not_both e.0 i q h)
      ∙ ap (cond (is_same q i) None) (sym (get-insert instance_total m e.0 e.1 q)) ∙ sym (get-remove instance_total (insert m e.0 e.1) i q))

  -- one cell is taken out, then others, and it is put back if it stays
  pub kept_one : (keep : InstanceId → V → Bool) (e : InstanceId × V) (m n : FinMap instance_cmp V) → ((i : InstanceId) → get n i ≡ kept_if (keep i) (get (remove m e.0) i)) → (b : Bool) → b ≡ keep e.0 e.1
      → (i : InstanceId) → get (with_one (cond b (Some e) None) n) i ≡ kept_if (keep i) (get (insert m e.0 e.1) i)
  kept_one keep e m n h b is i =
      one_got (cond b (Some e) None) n i
      ∙ elim (is_same i e.0) as (λ s. is_same i e.0 ≡ s → cond (holds (cond b (Some e) None) i) (option_map (λ x. x.1) (cond b (Some e) None)) (get n i) ≡ kept_if (keep i) (cond s (Some e.1) (get m i))) [
        | true ↦ λ s. elim b as (λ c. b ≡ c → cond (holds (cond c (Some e) None) i) (option_map (λ x. x.1) (cond c (Some e) None)) (get n i) ≡ cond (keep i e.1) (Some e.1) None) [
          | true ↦ λ t. ap (λ x. cond x (Some e.1) (get n i)) s ∙ ap (λ x. cond x (Some e.1) None) (sym (ap (λ j. keep j e.1) (same_is i e.0 s) ∙ sym is ∙ t))
          | false ↦ λ t. h i ∙ ap (kept_if (keep i)) (get-remove instance_total m e.0 i ∙ ap (λ x. cond x None (get m i)) s) ∙ ap (λ x. cond x (Some e.1) None) (sym (ap (λ j. keep j e.1) (same_is i e.0 s) ∙ sym is ∙ t))
        ] refl
        | false ↦ λ s. let later = h i ∙ ap (kept_if (keep i)) (get-remove instance_total m e.0 i ∙ ap (λ x. cond x None (get m i)) s) in elim b as (λ c. cond (holds (cond c (Some e) None) i) (option_map (λ x. x.1) (cond c (Some e) None)) (get n i) ≡ kept_if (keep i) (get m i)) [
          | true ↦ ap (λ x. cond x (Some e.1) (get n i)) s ∙ later
          | false ↦ later
        ]
      ] refl
      ∙ ap (kept_if (keep i)) (sym (get-insert instance_total m e.0 e.1 i))

  pub tree_one : (ts ts' : List (Bor InstanceId × Bor V)) (i : Bor InstanceId) (v : Bor V) (m : FinMap instance_cmp V) → ts' ≡ insert_entry (seen_cmp instance_cmp) ts i v → map seen_in ts ≡ entries m → map seen_in ts' ≡ entries (insert m i.now v.now)
  tree_one ts ts' i v m is all = ap (map seen_in) is ∙ put_seen instance_cmp i v ts ∙ ap (put instance_cmp i.now v.now) all ∙ sym (entries-insert instance_total m i.now v.now)

  pub len_there : (e : InstanceId × V) (m : FinMap instance_cmp V) → is_some (get m e.0) ≡ true → len m ≡ len (insert m e.0 e.1)
  len_there e m h = sym (len-insert instance_total m e.0 e.1 ∙ ap (λ b. cond b (len m) (len m + 1)) h)

  pub len_new : (e : InstanceId × V) (m : FinMap instance_cmp V) → is_some (get m e.0) ≡ false → len m + 1 ≡ len (insert m e.0 e.1)
  len_new e m h = sym (len-insert instance_total m e.0 e.1 ∙ ap (λ b. cond b (len m) (len m + 1)) h)

  -- what is left in the place of the value that is held
  pub lent_held : (e : InstanceId × V) (o : Option (InstanceId × V)) (m : FinMap instance_cmp V) (i : InstanceId) (w : V) → Some e ≡ o → holds o i ≡ true → insert m e.0 w ≡ insert (with_one o m) i w
  lent_held e o m i w is h =
      let held : is_same i e.0 ≡ true = ap (λ x. holds x i) is ∙ h in
      ap (λ k. insert m k w) (sym (same_is i e.0 held)) ∙ put_held (Some e) m i w held ∙ ap (λ x. insert (with_one x m) i w) is

  -- what stays of a row
  pub row_kept : (keep : InstanceId → V → Bool) (o : Option (InstanceId × V)) (m n : FinMap instance_cmp V) → ((i : InstanceId) → get n i ≡ kept_if (keep i) (get (without m o) i))
      → (i : InstanceId) → get (with_one (one_kept keep o) n) i ≡ kept_if (keep i) (get (with_one o m) i)
  row_kept keep None m n h i = h i
  row_kept keep (Some e) m n h i = kept_one keep e m n h (keep e.0 e.1) refl i

  pub none_held : (o : Option (InstanceId × V)) {b : Bool} → is_some o ≡ not b → b ≡ true → None ≡ o
  none_held None e h = refl
  none_held (Some x) e h = absurd (true≢false (e ∙ ap not h))
