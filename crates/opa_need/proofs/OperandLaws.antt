-- Parts that are as many as were found.
use Rattle.std.proofs.Common.{◌≡◌, ◌<◌, ◌≤◌, List, [], ◌∷◌, length, get_or, refl, sym, ◌∙◌, ap, arith}
use Rattle.opa_tree.specs.declared.expr.Expr.{Expr}

pub none_are : (es : List Expr) → length es < 1 → es ≡ []
none_are [] low = refl
none_are (e ∷ es) low = absurd (omega arith)

pub one_is : (es : List Expr) (x : Expr) → 1 ≤ length es → length es < 2 → x ≡ get_or es 0 x → es ≡ x ∷ []
one_is [] x low high e = absurd (omega arith)
one_is (t ∷ []) x low high e = ap (λ y. y ∷ []) (sym e)
one_is (t ∷ u ∷ ts) x low high e = absurd (omega arith)

pub two_are : (es : List Expr) (x y : Expr) → 2 ≤ length es → length es < 3 → x ≡ get_or es 0 x → y ≡ get_or es 1 y → es ≡ x ∷ y ∷ []
two_are [] x y low high e f = absurd (omega arith)
two_are (t ∷ []) x y low high e f = absurd (omega arith)
two_are (t ∷ u ∷ []) x y low high e f = ap (λ z. z ∷ u ∷ []) (sym e) ∙ ap (λ z. x ∷ z ∷ []) (sym f)
two_are (t ∷ u ∷ v ∷ ts) x y low high e f = absurd (omega arith)
