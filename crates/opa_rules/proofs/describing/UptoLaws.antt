-- What is said of one place after another.
use Rattle.std.proofs.Common.{◌≡◌, ◌+◌, ℕ, suc, List, [], ◌∷◌, ◌++◌, map, refl, ap, ◌∙◌, arith}
use Rattle.serde_json.specs.Data.{Data}
use Rattle.serde_json.specs.View.{view}
use Rattle.serde_json.specs.declared.value.Value.{Value}
use Rattle.opa_rules.specs.Describing.Parts.{upto}

pub upto_zero : (f : ℕ → Data) → [] ≡ upto f 0
unfolding upto
upto_zero f = refl

pub upto_suc : (f : ℕ → Data) (n : ℕ) → upto f n ++ f n ∷ [] ≡ upto f (suc n)
unfolding upto
upto_suc f n = refl

upto_next : (f : ℕ → Data) (n : ℕ) → upto f n ++ f n ∷ [] ≡ upto f (n + 1)
upto_next f n = let e : suc n ≡ n + 1 = omega arith in upto_suc f n ∙ ap (upto f) e

map_more : {A B : Type 0} (f : A → B) (xs : List A) (x : A) → map f (xs ++ x ∷ []) ≡ map f xs ++ f x ∷ []
map_more f [] x = refl
map_more f (y ∷ ys) x = ap (λ zs. f y ∷ zs) (map_more f ys x)

-- of no place
pub none_yet : (f : ℕ → Data) (items : List Value) → items ≡ [] → map view items ≡ upto f 0
unfolding upto
none_yet f items e = ap (map view) e

-- of one place more
pub one_more : (f : ℕ → Data) (n : ℕ) (old new : List Value) (v : Value) → new ≡ old ++ v ∷ [] → map view old ≡ upto f n → view v ≡ f n → map view new ≡ upto f (n + 1)
one_more f n old new v e o h =
    ap (map view) e ∙ map_more view old v ∙ ap (λ ds. ds ++ view v ∷ []) o ∙ ap (λ d. upto f n ++ d ∷ []) h ∙ upto_next f n
