-- What is left where cells are taken out one after another.
use Rattle.std.specs.Prelude.{◌≡◌, ◌<◌, ◌+◌, ◌==◌, ℕ, Bool, true, false, cond, ◌||◌, ◌&&◌, List, [], ◌∷◌, ◌++◌, Option, None, length, take, get_or, refl}
use Rattle.std.specs.List.{list_any}
use Rattle.std.specs.Ordering.{nat_cmp, is_eq}
use Rattle.std.specs.Cmp.{eq_by_cmp_equiv, nat_cmp_total}
use Rattle.std.specs.FinMap.{FinMap, get, remove, get-remove}
use Rattle.std.proofs.Common.{ap, sym, subst, ◌∙◌, eq-eqb}
use Rattle.std.proofs.lemmas.List.{take_more}
use Rattle.std.proofs.lemmas.List.Folds.{list_any-append}
use Rattle.std.proofs.lemmas.Map.Lookups.{exact_unsigned}
use Rattle.std.proofs.lemmas.Map.Views.{tells_apart, exact_unsigned_eq}
use Rattle.opa_io.proofs.Bools.{same_truth}
use Rattle.opa_cells.specs.declared.instance.InstanceId.{InstanceId}
use Rattle.opa_cells.specs.Instances.{instance_cmp, is_same}
use Rattle.opa_cells.specs.Keys.{cell_cmp}
use Rattle.opa_cells.proofs.Orders.{cell_total}
use Rattle.opa_cells.proofs.Rowed.{parts}

-- the order of numbers, and whether they are one
pub one_number : (q n : ℕ) → is_eq (nat_cmp q n) ≡ (q == n)
one_number q n = same_truth (is_eq (nat_cmp q n)) (q == n)
    (λ h. eq-eqb q n (tells_apart exact_unsigned q n h))
    (λ h. subst (λ m. is_eq (nat_cmp q m) ≡ true) (exact_unsigned_eq q n h) ((eq_by_cmp_equiv nat_cmp_total).refl q))

-- Two are taken out, one after the other: the second test sees what the first one left.
both_taken : {X : Type 0} (o : Option X) (u : Bool) (v : Option X → Bool) → cond (v (cond u None o)) None (cond u None o) ≡ cond (u || v o) None o
both_taken {X} o true v = elim (v None) as (λ b. ◌≡◌ {A = Option X} (cond b None None) None) [ true ↦ refl | false ↦ refl ]
both_taken o false v = refl

pub then_taken : {X : Type 0} (o p r : Option X) (u : Bool) (v : Option X → Bool) (w : Bool) → p ≡ cond u None o → r ≡ cond (v p) None p → (u || v o) ≡ w → r ≡ cond w None o
then_taken o p r u v w first next same = next ∙ ap (λ x. cond (v x) None x) first ∙ both_taken o u v ∙ ap (λ b. cond b None o) same

pub either_of : (a b c : Bool) → ((a && b) || (a && c)) ≡ (a && (b || c))
either_of true b c = refl
either_of false b c = refl

or_nothing : (b : Bool) → b ≡ (b || false)
or_nothing true = refl
or_nothing false = refl

pub any_next : {A : Type 0} (p : A → Bool) (xs : List A) (k : ℕ) (x : A) → k < length xs → x ≡ get_or xs k x → (list_any p (take k xs) || p x) ≡ list_any p (take (k + 1) xs)
any_next p xs k x lt is =
    ap (λ b. list_any p (take k xs) || b) (or_nothing (p x))
    ∙ sym (list_any-append p (take k xs) (x ∷ []))
    ∙ ap (λ y. list_any p (take k xs ++ y ∷ [])) is
    ∙ ap (list_any p) (sym (take_more xs k x lt))

-- a step of a loop over those that go
pub more_of : {A : Type 0} (a : Bool) (p : A → Bool) (xs : List A) (k : ℕ) (x : A) → k < length xs → x ≡ get_or xs k x → ((a && list_any p (take k xs)) || (a && p x)) ≡ (a && list_any p (take (k + 1) xs))
more_of a p xs k x lt is = either_of a (list_any p (take k xs)) (p x) ∙ ap (λ b. a && b) (any_next p xs k x lt is)

-- a test that holds at one number may be put to each, where they are compared
known_there : (p : ℕ → Bool) (n q : ℕ) (b : Bool) → p n ≡ true → ((q == n) && b) ≡ ((q == n) && (p q && b))
known_there p n q b is = elim (q == n) as (λ t. (q == n) ≡ t → (t && b) ≡ (t && (p q && b))) [
  | true ↦ λ e. ap (λ x. x && b) (sym (ap p (exact_unsigned_eq q n e) ∙ is))
  | false ↦ λ _. refl
] refl

-- one cell is taken out
pub one_taken : {X : Type 0} (m : FinMap cell_cmp X) (n : ℕ) (i : InstanceId) (p : ℕ → Bool) → p n ≡ true → (q : ℕ) (j : InstanceId) → get (remove m (n, i)) (q, j) ≡ cond ((q == n) && (p q && is_same j i)) None (get m (q, j))
one_taken m n i p is q j =
    get-remove cell_total m (n, i) (q, j)
    ∙ ap (λ b. cond b None (get m (q, j))) (parts (nat_cmp q n) (instance_cmp j i) ∙ ap (λ b. b && is_same j i) (one_number q n) ∙ known_there p n q (is_same j i) is)
