-- A line of what is seen holds up a run exactly where it is steady on it.
use Rattle.std.proofs.Common.{◌≡◌, ◌↔◌, ℕ, ◌<◌, ◌≤◌, List, Bool, true, false, cond, IsTrue, None, Some, refl, sym, ◌∙◌, ap, arith}
use Rattle.std.specs.Option.{option_map}
use Rattle.std.proofs.lemmas.Option.{same_Some}
use Rattle.opa_date.specs.declared.TheConstants.{DAYS}
use Rattle.opa_value.specs.declared.value.Value.{Value}
use Rattle.opa_value.specs.Fit.{fit_of}
use Rattle.opa_line.specs.Lines.{StandsFor}
use Rattle.opa_case.specs.Shapes.{Shape}
use Rattle.opa_cells.specs.declared.instance.InstanceId.{InstanceId}
use Rattle.opa_tree.specs.declared.expr.Expr.{Expr}
use Rattle.opa_verify.specs.declared.listed.shade.Shade.{Shade}
use Rattle.opa_verify.specs.Listed.Listings.{Listing}
use Rattle.opa_verify.specs.Listed.Shades.{there, shown, mapped, shade}
use Rattle.opa_verify.specs.Listed.ShadeLines.{ShadeLine}
use Rattle.opa_verify.specs.Listed.Steady.{IsSteady, IsConcludedOn}
use Rattle.opa_verify.proofs.listed.Shading.{shaded}

-- what is shown is there
shown_is : (f : Value → Value) (h : Shade) (v : Value) → mapped f h ≡ there v → option_map f (shown h) ≡ Some v
shown_is f h v e = go h.missing refl
  where
    go : (m : Bool) → h.missing ≡ m → option_map f (cond m None (Some h.value)) ≡ Some v
    go true q = absurd (cc (q, ap (λ (x : Shade). x.missing) e))
    go false q = ap (λ (x : Shade). Some x.value) e

is_shown : (f : Value → Value) (h : Shade) (v : Value) → option_map f (shown h) ≡ Some v → mapped f h ≡ there v
is_shown f h v e = go h.missing refl e
  where
    go : (m : Bool) → h.missing ≡ m → option_map f (cond m None (Some h.value)) ≡ Some v → mapped f h ≡ there v
    go true q e = absurd (cc e)
    go false q e = ap (λ m. let x : Shade = record { value = f h.value; missing = m } in x) q ∙ ap there (same_Some (f h.value) v e)

-- a line of what is concluded is steady on days exactly where each of them has the value
pub steady_holds : (s : Shape) (k : Listing) (money : Bool) (e : Expr) (enclosing : List InstanceId) (start end : ℕ) (v : Value) (line : ShadeLine) (h : Shade) (b : Bool) → end < DAYS → h ≡ there v
    → StandsFor DAYS (λ d. mapped (fit_of money) (shade s k e enclosing d)) line → (IsTrue b ↔ IsSteady line start end h) → IsTrue b ↔ IsConcludedOn s k money e enclosing start end v
steady_holds s k money e enclosing start end v line h b within is stands tells = (
  λ yes d after until.
      let lt : d < DAYS = omega (arith, until, within) in
      ap (option_map (fit_of money)) (shaded s k e enclosing d)
      ∙ shown_is (fit_of money) (shade s k e enclosing d) v (same_Some _ _ (sym (stands d lt) ∙ tells.0 yes d after until) ∙ is),
  λ holds. tells.1 (λ d after until.
      let lt : d < DAYS = omega (arith, until, within) in
      stands d lt ∙ ap Some (is_shown (fit_of money) (shade s k e enclosing d) v (sym (ap (option_map (fit_of money)) (shaded s k e enclosing d)) ∙ holds d after until) ∙ sym is)),
)
