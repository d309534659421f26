-- What goes, entity by entity.
use Rattle.std.specs.Prelude.{◌≡◌, ◌==◌, ℕ, zero, suc, ◌+◌, Bool, true, false, cond, [], ◌∷◌, ◌++◌, length, flat_map, refl}
use Rattle.std.proofs.Common.{arith, ap, subst, ◌∙◌}
use Rattle.std.proofs.lemmas.Map.Views.{exact_unsigned_eq}
use Rattle.opa_cells.specs.Instances.{global}
use Rattle.opa_case.specs.Shapes.{Shape}
use Rattle.opa_case.specs.Live.{Lists, Population, held}
use Rattle.opa_case.specs.Turns.{gone_at, gone_upto}

module _ (s : Shape) (l : Lists) (t : ℕ) (seeds : Population) where
  pub gone_none : [] ≡ gone_upto s l t seeds 0
  unfolding gone_upto
  gone_none = refl

  gone_step : (n : ℕ) → gone_upto s l t seeds n ++ gone_at s l t seeds (suc n) (gone_upto s l t seeds n) ≡ gone_upto s l t seeds (suc n)
  unfolding gone_upto
  gone_step n = refl

  pub gone_next : (n : ℕ) → gone_upto s l t seeds n ++ gone_at s l t seeds (n + 1) (gone_upto s l t seeds n) ≡ gone_upto s l t seeds (n + 1)
  gone_next n = let same : suc n ≡ n + 1 = omega arith in subst (λ m. gone_upto s l t seeds n ++ gone_at s l t seeds m (gone_upto s l t seeds n) ≡ gone_upto s l t seeds m) same (gone_step n)

none_at : (s : Shape) (l : Lists) (e : ℕ) (a b : Bool) → [] ≡ cond a [] (cond b [] (flat_map (held s l e) (cond b (global ∷ []) [])))
none_at s l e true b = refl
none_at s l e false true = refl
none_at s l e false false = refl

none_upto : (s : Shape) (l : Lists) (t n : ℕ) → [] ≡ gone_upto s l t [] n
unfolding gone_upto
none_upto s l t zero = refl
none_upto s l t (suc n) = none_at s l (suc n) (suc n == t) (s.parent (suc n) == 0) ∙ ap (λ g. g ++ gone_at s l t [] (suc n) g) (none_upto s l t n)

-- nothing goes where there are no seeds
pub gone_nothing : (s : Shape) (l : Lists) (t : ℕ) (seeds : Population) (n : ℕ) → (length seeds == 0) ≡ true → [] ≡ gone_upto s l t seeds n
gone_nothing s l t [] n h = none_upto s l t n
gone_nothing s l t (x ∷ xs) n h = let long : length (x ∷ xs) ≡ 0 = exact_unsigned_eq _ 0 h in absurd (omega (arith, long))
