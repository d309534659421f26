-- The program's steps from an entity to its parents.
use Rattle.std.specs.Prelude.{◌≡◌, ◌-◌, ◌==◌, ℕ, zero, suc, Bool, true, false, ◌&&◌, ◌||◌, not, refl}
use Rattle.std.proofs.Common.{arith, ap, sym, ◌∙◌, ne_eqb, eq-eqb}
use Rattle.opa_case.specs.Shapes.{Shape}
use Rattle.opa_case.specs.Below.{is_under}

module _ (s : Shape) (t : ℕ) where
  pub under_none : (n e : ℕ) → n ≡ 0 → false ≡ is_under s t n e
  unfolding is_under
  under_none zero e z = refl
  under_none (suc n) e z = absurd (omega (arith, z))

  step : (n e : ℕ) (b d : Bool) → (e == 0) ≡ b → (e == t) ≡ d → (not b && (d || is_under s t n (s.parent e))) ≡ is_under s t (suc n) e
  unfolding is_under
  step n e b d z h = ap (λ x. not x && (d || is_under s t n (s.parent e))) (sym z) ∙ ap (λ x. not (e == 0) && (x || is_under s t n (s.parent e))) (sym h)

  pub under_root : (n e : ℕ) → (n ≡ 0 → ⊥) → e ≡ 0 → false ≡ is_under s t n e
  under_root zero e nz z = absurd (nz refl)
  under_root (suc n) e nz z = step n e true (e == t) (eq-eqb e 0 z) refl

  pub under_here : (n e : ℕ) → (n ≡ 0 → ⊥) → (e ≡ 0 → ⊥) → e ≡ t → true ≡ is_under s t n e
  under_here zero e nz z h = absurd (nz refl)
  under_here (suc n) e nz z h = step n e false true (ne_eqb e 0 z) (eq-eqb e t h)

  pub under_next : (n e : ℕ) → (n ≡ 0 → ⊥) → (e ≡ 0 → ⊥) → (e ≡ t → ⊥) → is_under s t (n - 1) (s.parent e) ≡ is_under s t n e
  under_next zero e nz z h = absurd (nz refl)
  under_next (suc n) e nz z h =
      let less : suc n - 1 ≡ n = omega arith in
      ap (λ m. is_under s t m (s.parent e)) less ∙ step n e false false (ne_eqb e 0 z) (ne_eqb e t h)
