-- One answer laid over a case.
use Rattle.std.proofs.Common.{◌≡◌, ℕ, Bool, true, false, cond, Option, None, Some, refl, sym, ◌∙◌, ap}
use Rattle.std.specs.FinMap.{FinMap, get, get-insert, get-remove}
use Rattle.std.specs.Ordering.{eq_by_cmp}
use Rattle.std.specs.Cmp.{eq_by_cmp_equiv}
use Rattle.std.proofs.lemmas.Map.Views.{tells_apart}
use Rattle.opa_model.specs.declared.ids.AttrId.{AttrId}
use Rattle.opa_cells.specs.Instances.{is_same}
use Rattle.opa_cells.specs.Keys.{cell_cmp}
use Rattle.opa_cells.specs.declared.instance.InstanceId.{InstanceId}
use Rattle.opa_cells.proofs.Orders.{cell_exact, cell_total, same_is, same_itself}
use Rattle.opa_case.specs.Cases.{Answer}
use Rattle.opa_session.specs.Store.Nexts.{answers_with}

pub got_with : (m : FinMap cell_cmp Answer) (a : AttrId) (i : InstanceId) (o : Option Answer) (k : ℕ × InstanceId) → get (answers_with m a i o) k ≡ cond (eq_by_cmp cell_cmp k (a.0, i)) o (get m k)
got_with m a i None k = get-remove cell_total m (a.0, i) k
got_with m a i (Some l) k = get-insert cell_total m (a.0, i) l k

same_key : (a b : AttrId) (i j : InstanceId) → a.0 ≡ b.0 → is_same i j ≡ true → eq_by_cmp cell_cmp (a.0, i) (b.0, j) ≡ true
same_key a b i j e h = ap (λ n. eq_by_cmp cell_cmp (n, i) (b.0, j)) e ∙ ap (λ k. eq_by_cmp cell_cmp (b.0, k) (b.0, j)) (same_is i j h) ∙ (eq_by_cmp_equiv cell_total).refl (b.0, j)

pub answer_here : (m : FinMap cell_cmp Answer) (a b : AttrId) (i j : InstanceId) (o : Option Answer) → a.0 ≡ b.0 → is_same i j ≡ true → o ≡ get (answers_with m b j o) (a.0, i)
answer_here m a b i j o e h = sym (got_with m b j o (a.0, i) ∙ ap (λ t. cond t o (get m (a.0, i))) (same_key a b i j e h))

pub answer_there : (m : FinMap cell_cmp Answer) (a b : AttrId) (i j : InstanceId) (o : Option Answer) → ((a.0 ≡ b.0) × (is_same i j ≡ true) → ⊥) → get m (a.0, i) ≡ get (answers_with m b j o) (a.0, i)
answer_there m a b i j o apart = sym (got_with m b j o (a.0, i) ∙ go (eq_by_cmp cell_cmp (a.0, i) (b.0, j)) refl)
  where
    go : (t : Bool) → eq_by_cmp cell_cmp (a.0, i) (b.0, j) ≡ t → cond t o (get m (a.0, i)) ≡ get m (a.0, i)
    go false e = refl
    go true e = let k = tells_apart cell_exact (a.0, i) (b.0, j) e in absurd (apart (ap (λ (x : ℕ × InstanceId). x.0) k, ap (is_same i) (sym (ap (λ (x : ℕ × InstanceId). x.1) k)) ∙ same_itself i))
