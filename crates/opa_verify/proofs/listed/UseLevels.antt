-- The uses of parts, part by part.
use Rattle.std.proofs.Common.{◌≡◌, ℕ, List, [], ◌∷◌, ◌++◌, Bool, true, false, cond, Some, refl, ◌∙◌, ap}
use Rattle.std.specs.Prelude.{map, find, flat_map}
use Rattle.opa_value.specs.declared.value.Value.{Value}
use Rattle.opa_case.specs.Shapes.{Shape}
use Rattle.opa_cells.specs.declared.instance.InstanceId.{InstanceId}
use Rattle.opa_tree.specs.declared.expr.Expr.{Expr}
use Rattle.opa_tree.proofs.Induction.{Part}
use Rattle.opa_mean.specs.Looks.{Look}
use Rattle.opa_mean.specs.Meaning.{value, each}
use Rattle.opa_mean.specs.Uses.{Use, Used, found_or, first_or_all, uses}

module _ (s : Shape) (l : Look) where
  module _ (P : Expr → Type 0) where
    abbrev pub useds : List (Part P) → List Used
    useds ps = map (λ e. (e, uses s l e)) (map (λ p. p.0) ps)

    pub all_uses : (ps : List (Part P)) (enclosing : List InstanceId) (d : ℕ) → flat_map (λ (x : Used). x.1 enclosing d) (useds ps) ≡ flat_map (λ p. uses s l p.0 enclosing d) ps
    all_uses [] enclosing d = refl
    all_uses (p ∷ ps) enclosing d = ap (λ us. uses s l p.0 enclosing d ++ us) (all_uses ps enclosing d)

    pub item_values : (ps : List (Part P)) (enclosing : List InstanceId) (d : ℕ) → map (λ (x : Used). value s l x.0 enclosing d) (useds ps) ≡ each (map (value s l) (map (λ p. p.0) ps)) enclosing d
    item_values [] enclosing d = refl
    item_values (p ∷ ps) enclosing d = ap (λ vs. value s l p.0 enclosing d ∷ vs) (item_values ps enclosing d)

    found_parts : (q : Value → Bool) (ps : List (Part P)) (enclosing : List InstanceId) (d : ℕ) (rest : List Use) → found_or (find (λ (x : Used). q (value s l x.0 enclosing d)) (useds ps)) (λ (x : Used). x.1 enclosing d) rest ≡ found_or (find (λ p. q (value s l p.0 enclosing d)) ps) (λ p. uses s l p.0 enclosing d) rest
    found_parts q [] enclosing d rest = refl
    found_parts q (p ∷ ps) enclosing d rest = go (q (value s l p.0 enclosing d)) (found_parts q ps enclosing d rest)
      where
        go : (b : Bool) → found_or (find (λ (x : Used). q (value s l x.0 enclosing d)) (useds ps)) (λ (x : Used). x.1 enclosing d) rest ≡ found_or (find (λ p. q (value s l p.0 enclosing d)) ps) (λ p. uses s l p.0 enclosing d) rest
            → found_or (cond b (Some (p.0, uses s l p.0)) (find (λ (x : Used). q (value s l x.0 enclosing d)) (useds ps))) (λ (x : Used). x.1 enclosing d) rest ≡ found_or (cond b (Some p) (find (λ p. q (value s l p.0 enclosing d)) ps)) (λ p. uses s l p.0 enclosing d) rest
        go true e = refl
        go false e = e

    pub choice_parts : (q : Value → Bool) (ps : List (Part P)) (enclosing : List InstanceId) (d : ℕ) → first_or_all (λ (x : Used). q (value s l x.0 enclosing d)) (λ (x : Used). x.1 enclosing d) (useds ps) ≡ first_or_all (λ p. q (value s l p.0 enclosing d)) (λ p. uses s l p.0 enclosing d) ps
    choice_parts q ps enclosing d = ap (λ us. found_or (find (λ (x : Used). q (value s l x.0 enclosing d)) (useds ps)) (λ (x : Used). x.1 enclosing d) us) (all_uses ps enclosing d) ∙ found_parts q ps enclosing d (flat_map (λ p. uses s l p.0 enclosing d) ps)
