-- How many cells a map has at a number, as cells come and go.
use Rattle.std.specs.Prelude.{◌≡◌, ◌≤◌, ◌+◌, ◌-◌, ◌==◌, ℕ, suc, Bool, true, false, cond, ◌&&◌, List, [], ◌∷◌, Option, None, Some, IsSome, is_some, length, refl}
use Rattle.std.specs.List.{AllByRecursion, IsDistinct}
use Rattle.std.specs.FinMap.{FinMap, get, insert, remove, retain_keys, len, same_map, get-insert, get-remove, len-insert, len-remove}
use Rattle.std.specs.Ordering.{nat_cmp, eq_by_cmp}
use Rattle.std.specs.Cmp.{nat_cmp_total, nat_eq_equiv, eq_by_cmp_equiv}
use Rattle.std.proofs.Common.{arith, ap, sym, subst, ◌∙◌}
use Rattle.std.proofs.lemmas.Map.Views.{tells_apart}
use mathlib.Core.Bool.{true≢false}
use Rattle.opa_cells.specs.declared.instance.InstanceId.{InstanceId}
use Rattle.opa_cells.specs.Instances.{instance_cmp, is_same}
use Rattle.opa_cells.specs.Keys.{cell_cmp}
use Rattle.opa_cells.specs.Rows.{cells_at}
use Rattle.opa_cells.proofs.Orders.{cell_exact, cell_total, instance_total, get_kept}
use Rattle.opa_cells.proofs.Rowed.{parts}
use Rattle.opa_cells.proofs.Walked.{some_counted}

itself : (n : ℕ) → (n == n) ≡ true
itself n = nat_eq_equiv.refl n

module _ {V : Type 0} (n : ℕ) where
  abbrev at_number : FinMap cell_cmp V → FinMap cell_cmp V
  at_number m = retain_keys m (λ k. k.0 == n)

  got : (m : FinMap cell_cmp V) (q : ℕ × InstanceId) → get (at_number m) q ≡ cond (q.0 == n) (get m q) None
  got m q = get_kept cell_exact m (λ k. k.0 == n) q

  got_here : (m : FinMap cell_cmp V) (i : InstanceId) → get (at_number m) (n, i) ≡ get m (n, i)
  got_here m i = got m (n, i) ∙ ap (λ b. cond b (get m (n, i)) None) (itself n)

  inserted_here : (m : FinMap cell_cmp V) (i : InstanceId) (v : V) → at_number (insert m (n, i) v) ≡ insert (at_number m) (n, i) v
  inserted_here m i v = same_map cell_total cell_exact _ _ (λ q.
      got (insert m (n, i) v) q ∙ ap (λ o. cond (q.0 == n) o None) (get-insert cell_total m (n, i) v q)
      ∙ elim (eq_by_cmp cell_cmp q (n, i)) as (λ b. eq_by_cmp cell_cmp q (n, i) ≡ b → cond (q.0 == n) (cond b (Some v) (get m q)) None ≡ cond b (Some v) (cond (q.0 == n) (get m q) None)) [
        | true ↦ λ e. ap (λ b. cond b (Some v) None) (ap (λ (k : ℕ × InstanceId). k.0 == n) (tells_apart cell_exact q (n, i) e) ∙ itself n)
        | false ↦ λ _. refl
      ] refl
      ∙ ap (cond (eq_by_cmp cell_cmp q (n, i)) (Some v)) (sym (got m q)) ∙ sym (get-insert cell_total (at_number m) (n, i) v q))

  inserted_elsewhere : (m : FinMap cell_cmp V) (k : ℕ × InstanceId) (v : V) → (k.0 == n) ≡ false → at_number (insert m k v) ≡ at_number m
  inserted_elsewhere m k v other = same_map cell_total cell_exact _ _ (λ q.
      got (insert m k v) q ∙ ap (λ o. cond (q.0 == n) o None) (get-insert cell_total m k v q)
      ∙ elim (eq_by_cmp cell_cmp q k) as (λ b. eq_by_cmp cell_cmp q k ≡ b → cond (q.0 == n) (cond b (Some v) (get m q)) None ≡ cond (q.0 == n) (get m q) None) [
        | true ↦ λ e. let away : (q.0 == n) ≡ false = ap (λ (j : ℕ × InstanceId). j.0 == n) (tells_apart cell_exact q k e) ∙ other in ap (λ b. cond b (Some v) None) away ∙ ap (λ b. cond b (get m q) None) (sym away)
        | false ↦ λ _. refl
      ] refl
      ∙ sym (got m q))

  both_ways : (a b : Bool) (o : Option V) → cond a (cond b None o) None ≡ cond b None (cond a o None)
  both_ways true b o = refl
  both_ways false true o = refl
  both_ways false false o = refl

  removed : (m : FinMap cell_cmp V) (k : ℕ × InstanceId) → at_number (remove m k) ≡ remove (at_number m) k
  removed m k = same_map cell_total cell_exact _ _ (λ q.
      got (remove m k) q ∙ ap (λ o. cond (q.0 == n) o None) (get-remove cell_total m k q) ∙ both_ways (q.0 == n) (eq_by_cmp cell_cmp q k) (get m q)
      ∙ ap (cond (eq_by_cmp cell_cmp q k) None) (sym (got m q)) ∙ sym (get-remove cell_total (at_number m) k q))

  pub cells_at-insert : (m : FinMap cell_cmp V) (i : InstanceId) (v : V) → cells_at (insert m (n, i) v) n ≡ cond (is_some (get m (n, i))) (cells_at m n) (cells_at m n + 1)
  cells_at-insert m i v = ap len (inserted_here m i v) ∙ len-insert cell_total (at_number m) (n, i) v ∙ ap (λ o. cond (is_some o) (cells_at m n) (cells_at m n + 1)) (got_here m i)

  pub cells_at-insert_elsewhere : (m : FinMap cell_cmp V) (k : ℕ × InstanceId) (v : V) → (k.0 == n) ≡ false → cells_at (insert m k v) n ≡ cells_at m n
  cells_at-insert_elsewhere m k v other = ap len (inserted_elsewhere m k v other)

  pub cells_at-remove : (m : FinMap cell_cmp V) (i : InstanceId) → cells_at (remove m (n, i)) n ≡ cond (is_some (get m (n, i))) (cells_at m n - 1) (cells_at m n)
  cells_at-remove m i = ap len (removed m (n, i)) ∙ len-remove cell_total (at_number m) (n, i) ∙ ap (λ o. cond (is_some o) (cells_at m n - 1) (cells_at m n)) (got_here m i)

  pub cells_at-remove_elsewhere : (m : FinMap cell_cmp V) (k : ℕ × InstanceId) → (k.0 == n) ≡ false → cells_at (remove m k) n ≡ cells_at m n
  cells_at-remove_elsewhere m k other = ap len (removed m k) ∙ len-remove cell_total (at_number m) k ∙ ap (λ o. cond (is_some o) (cells_at m n - 1) (cells_at m n)) (got m k ∙ ap (λ b. cond b (get m k) None) other)

  -- these instances have cells
  abbrev HaveCells : FinMap cell_cmp V → List InstanceId → Type 0
  HaveCells m xs = AllByRecursion (λ i. IsSome (get m (n, i))) xs

  stays : (m : FinMap cell_cmp V) (x i : InstanceId) → is_same x i ≡ false → get (remove m (n, x)) (n, i) ≡ get m (n, i)
  stays m x i h =
      get-remove cell_total m (n, x) (n, i)
      ∙ ap (λ b. cond b None (get m (n, i))) (parts (nat_cmp n n) (instance_cmp i x) ∙ ap (λ b. b && is_same i x) ((eq_by_cmp_equiv nat_cmp_total).refl n) ∙ (eq_by_cmp_equiv instance_total).symm i x ∙ h)

  without : (m : FinMap cell_cmp V) (x : InstanceId) (xs : List InstanceId) → AllByRecursion (λ y. is_same x y ≡ false) xs → HaveCells m xs → HaveCells (remove m (n, x)) xs
  without m x [] others have = tt
  without m x (y ∷ ys) others have = (subst (λ o. IsSome o) (sym (stays m x y others.0)) have.0, without m x ys others.1 have.1)

  one_less : (m : FinMap cell_cmp V) (x : InstanceId) → IsSome (get m (n, x)) → len m ≡ suc (len (remove m (n, x)))
  one_less m x some = go (is_some (get m (n, x))) refl
    where
      told : (o : Option V) → IsSome o → is_some o ≡ true
      told None s = absurd (cc s)
      told (Some v) s = refl

      go : (b : Bool) → is_some (get m (n, x)) ≡ b → len m ≡ suc (len (remove m (n, x)))
      go true h = let less = len-remove cell_total m (n, x) ∙ ap (λ b. cond b (len m - 1) (len m)) h in omega (arith, less, some_counted m (n, x) h)
      go false h = absurd (true≢false (sym (told (get m (n, x)) some) ∙ h))

  each_counts : (m : FinMap cell_cmp V) (xs : List InstanceId) → IsDistinct is_same xs → HaveCells m xs → length xs ≤ len m
  unfolding IsDistinct
  each_counts m [] d have = omega arith
  each_counts m (x ∷ xs) d have = omega (arith, one_less m x have.0, each_counts (remove m (n, x)) xs d.1 (without m x xs d.0 have.1))

  have_here : (m : FinMap cell_cmp V) (xs : List InstanceId) → HaveCells m xs → HaveCells (at_number m) xs
  have_here m [] have = tt
  have_here m (x ∷ xs) have = (subst (λ o. IsSome o) (sym (got_here m x)) have.0, have_here m xs have.1)

  -- instances that differ and have a cell at the number are no more than its cells
  pub no_more_than_cells : (m : FinMap cell_cmp V) (xs : List InstanceId) → IsDistinct is_same xs → HaveCells m xs → length xs ≤ cells_at m n
  no_more_than_cells m xs d have = each_counts (at_number m) xs d (have_here m xs have)
