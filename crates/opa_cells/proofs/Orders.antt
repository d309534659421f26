-- The orders of instances and keys are total, and tell all keys apart.
use Rattle.std.specs.Prelude.{◌≡◌, ℕ, Bool, true, cond, List, None}
use Rattle.std.specs.Ordering.{nat_cmp}
use Rattle.std.specs.Cmp.{IsTotalOrder, nat_cmp_total, eq_by_cmp_equiv}
use Rattle.std.specs.Cmp.Lexicographic.{slice_cmp, nat_list_cmp_total}
use Rattle.std.proofs.Common.{ap, sym}
use Rattle.std.specs.FinMap.{FinMap, get, retain_keys, get-retain_keys}
use Rattle.std.proofs.lemmas.Cmp.{on_total, then_total}
use Rattle.std.proofs.lemmas.Map.Lookups.{CmpEqualImpliesEq, exact_pairs, exact_unsigned, exact_bytes}
use Rattle.std.proofs.lemmas.Map.Views.{tells_apart}
use Rattle.opa_cells.specs.declared.instance.InstanceId.{InstanceId}
use Rattle.opa_cells.specs.Instances.{instance_cmp, is_same}
use Rattle.opa_cells.specs.Keys.{cell_cmp}

pub instance_exact : CmpEqualImpliesEq instance_cmp
instance_exact i j h = ap (λ (p : ℕ × List ℕ). record { entity = record { 0 = p.0 }; name = p.1 }) (exact_pairs nat_cmp (slice_cmp nat_cmp) exact_unsigned exact_bytes (i.entity.0, i.name) (j.entity.0, j.name) h)

pub instance_total : IsTotalOrder instance_cmp
instance_total = then_total (on_total (λ (i : InstanceId). i.entity.0) nat_cmp_total) (on_total (λ (i : InstanceId). i.name) nat_list_cmp_total)

pub cell_exact : CmpEqualImpliesEq cell_cmp
cell_exact = exact_pairs nat_cmp instance_cmp exact_unsigned instance_exact

pub cell_total : IsTotalOrder cell_cmp
cell_total = then_total (on_total (λ (x : ℕ × InstanceId). x.0) nat_cmp_total) (on_total (λ (x : ℕ × InstanceId). x.1) instance_total)

pub same_is : (i j : InstanceId) → is_same i j ≡ true → i ≡ j
same_is i j h = tells_apart instance_exact i j h

pub same_itself : (i : InstanceId) → is_same i i ≡ true
same_itself i = (eq_by_cmp_equiv instance_total).refl i

-- what a map keeps
pub get_kept : {K X : Type 0} {R : K → K → _} → CmpEqualImpliesEq R → (m : FinMap R X) (p : K → Bool) (q : K) → get (retain_keys m p) q ≡ cond (p q) (get m q) None
get_kept exact m p q = get-retain_keys m p q (λ x e. ap p (sym (exact q x e)))
