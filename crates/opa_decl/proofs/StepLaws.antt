-- Reading each of many things.
use Rattle.std.proofs.Common.{◌≡◌, ◌∙◌, List, [], ◌∷◌, ◌++◌, sym, ap, refl, append_assoc}
use Rattle.std.specs.Prelude.{Option, None, Some}
use Rattle.std.specs.Option.{option_map, option_and_then}
use Rattle.opa_decl.specs.Steps.{each}

-- the next one is read
pub each_more : {A B : Type 0} (f : A → Option B) (acc acc' : List B) (rest later : List A) (x : A) (y : B) (total : Option (List B))
    → option_map (λ (ys : List B). acc ++ ys) (each f rest) ≡ total → rest ≡ x ∷ later → f x ≡ Some y → acc' ≡ acc ++ y ∷ [] → option_map (λ (ys : List B). acc' ++ ys) (each f later) ≡ total
each_more {A} {B} f acc acc' rest later x y total h r is more =
    ap (λ (zs : List B). option_map (λ (ys : List B). zs ++ ys) (each f later)) more ∙ push (each f later)
    ∙ sym (ap (λ (q : Option B). option_map (λ (ys : List B). acc ++ ys) (option_and_then (λ (z : B). option_map (λ (ys : List B). z ∷ ys) (each f later)) q)) is)
    ∙ ap (λ (zs : List A). option_map (λ (ys : List B). acc ++ ys) (each f zs)) (sym r) ∙ h
  where
    push : (q : Option (List B)) → option_map (λ (ys : List B). (acc ++ y ∷ []) ++ ys) q ≡ option_map (λ (ys : List B). acc ++ ys) (option_map (λ (ys : List B). y ∷ ys) q)
    push None = refl
    push (Some ys) = ap (λ (zs : List B). Some zs) (append_assoc acc (y ∷ []) ys)
