-- Lists of values from which a value that counts for nothing is taken out.
use Rattle.std.proofs.Common.{◌≡◌, suc, Bool, true, false, List, [], ◌∷◌, length, map, filter, cond, refl, sym, ap, ◌∙◌, subst, arith, inl, inr}
use Rattle.std.specs.Prelude.{ℤ, ◌+ℤ◌, pos, ◌||◌, if◌then◌else◌}
use Rattle.std.specs.List.{list_any, AllByRecursion}
use Rattle.opa_value.specs.declared.value.Value.{Value}
use Rattle.opa_value.specs.declared.value.Value.TheVariants as value
use Rattle.opa_value.specs.Truth.{is_true, is_false, is_unknown, is_uncertain, all_of, any_of, unless_open, strict}
use Rattle.opa_window.specs.Folds.{count_of, total, sum_value, number_of}
use Rattle.opa_mean.specs.Meaning.{true_count, amount}
use Rattle.opa_mean.specs.Kinds.Membership.{IsDecided}

-- the second list is the first without some of the values z
pub data Sieved (z : Value) : List Value → List Value → Type 0 where
  none : Sieved z [] []
  kept : {v : Value} {us vs : List Value} → Sieved z us vs → Sieved z (v ∷ us) (v ∷ vs)
  passed : {us vs : List Value} → Sieved z us vs → Sieved z (z ∷ us) vs

none_of : (p : Value → Bool) (z : Value) → p z ≡ false → {us vs : List Value} → Sieved z us vs → list_any p us ≡ list_any p vs
none_of p z e Sieved.none = refl
none_of p z e (Sieved.kept {v = v} h) = ap (λ b. p v || b) (none_of p z e h)
none_of p z e (Sieved.passed {us = us} {vs = vs} h) = ap (λ b. b || list_any p us) e ∙ none_of p z e h

open_as : (z : Value) → is_unknown z ≡ false → is_uncertain z ≡ false → {us vs : List Value} → Sieved z us vs → (v w : Value) → v ≡ w → unless_open us v ≡ unless_open vs w
open_as z p q {us} {vs} h v w e =
    ap (λ b. if b then value.Unknown else (if list_any is_uncertain us then value.Uncertain else v)) (none_of is_unknown z p h)
    ∙ ap (λ b. if list_any is_unknown vs then value.Unknown else (if b then value.Uncertain else v)) (none_of is_uncertain z q h)
    ∙ ap (unless_open vs) e

pub all_sieved : {us vs : List Value} → Sieved (value.Bool true) us vs → all_of us ≡ all_of vs
all_sieved {us} {vs} h =
    ap (λ b. if b then value.Bool false else unless_open us (value.Bool true)) (none_of is_false (value.Bool true) refl h)
    ∙ ap (λ w. if list_any is_false vs then value.Bool false else w) (open_as (value.Bool true) refl refl h (value.Bool true) (value.Bool true) refl)

pub any_sieved : {us vs : List Value} → Sieved (value.Bool false) us vs → any_of us ≡ any_of vs
any_sieved {us} {vs} h =
    ap (λ b. if b then value.Bool true else unless_open us (value.Bool false)) (none_of is_true (value.Bool false) refl h)
    ∙ ap (λ w. if list_any is_true vs then value.Bool true else w) (open_as (value.Bool false) refl refl h (value.Bool false) (value.Bool false) refl)

trues : {us vs : List Value} → Sieved (value.Bool false) us vs → length (filter is_true us) ≡ length (filter is_true vs)
trues Sieved.none = refl
trues (Sieved.kept {v = v} {us = us} {vs = vs} h) = go (is_true v) (trues h)
  where
    go : (b : Bool) → length (filter is_true us) ≡ length (filter is_true vs) → length (cond b (v ∷ filter is_true us) (filter is_true us)) ≡ length (cond b (v ∷ filter is_true vs) (filter is_true vs))
    go true e = ap (λ n. suc n) e
    go false e = e
trues (Sieved.passed h) = trues h

pub count_sieved : {us vs : List Value} → Sieved (value.Bool false) us vs → strict true_count us ≡ strict true_count vs
count_sieved {us} {vs} h = open_as (value.Bool false) refl refl h (true_count us) (true_count vs) (ap amount (trues h))

zero_more : (x : ℤ) → (pos 0 +ℤ x) ≡ x
zero_more x = grind arith

totals : {us vs : List Value} → Sieved (value.Num (pos 0)) us vs → total us ≡ total vs
totals Sieved.none = refl
totals (Sieved.kept {v = v} h) = ap (λ n. count_of v +ℤ n) (totals h)
totals (Sieved.passed {us = us} h) = zero_more (total us) ∙ totals h

pub sum_sieved : {us vs : List Value} → Sieved (value.Num (pos 0)) us vs → strict sum_value us ≡ strict sum_value vs
sum_sieved {us} {vs} h = open_as (value.Num (pos 0)) refl refl h (sum_value us) (sum_value vs) (ap number_of (totals h))

-- a name whose membership is decided gives the value x if it is a member, else z
pub record Gives (m f x z : Value) : Type 0 where
  pub member : m ≡ value.Bool true → f ≡ x
  pub other : m ≡ value.Bool false → f ≡ z

module _ {N : Type 0} (m f x : N → Value) (z : Value) where
  pub sieved : (ns : List N) → AllByRecursion (λ n. IsDecided (m n)) ns → ((n : N) → Gives (m n) (f n) (x n) z) → Sieved z (map f ns) (map x (filter (λ n. is_true (m n)) ns))
  sieved [] d g = Sieved.none
  sieved (n ∷ ns) d g = go d.0 (sieved ns d.1 g)
    where
      go : IsDecided (m n) → Sieved z (map f ns) (map x (filter (λ n. is_true (m n)) ns)) → Sieved z (f n ∷ map f ns) (map x (cond (is_true (m n)) (n ∷ filter (λ n. is_true (m n)) ns) (filter (λ n. is_true (m n)) ns)))
      go (inl e) h =
          subst (λ b. Sieved z (f n ∷ map f ns) (map x (cond (is_true b) (n ∷ filter (λ n. is_true (m n)) ns) (filter (λ n. is_true (m n)) ns)))) (sym e)
          (subst (λ v. Sieved z (v ∷ map f ns) (x n ∷ map x (filter (λ n. is_true (m n)) ns))) (sym ((g n).member e)) (Sieved.kept h))
      go (inr e) h =
          subst (λ b. Sieved z (f n ∷ map f ns) (map x (cond (is_true b) (n ∷ filter (λ n. is_true (m n)) ns) (filter (λ n. is_true (m n)) ns)))) (sym e)
          (subst (λ v. Sieved z (v ∷ map f ns) (map x (filter (λ n. is_true (m n)) ns))) (sym ((g n).other e)) (Sieved.passed h))
