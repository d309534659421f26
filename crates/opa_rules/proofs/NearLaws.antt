-- Nearness of phrases.
use Rattle.std.proofs.Common.{◌≡◌, ℕ, min, nat_le, Bool, true, false, ◌&&◌, if◌then◌else◌, List, [], ◌∷◌, find, Some, refl, ap, ◌∙◌, arith}
use Rattle.std.specs.List.{list_all}
use Rattle.opa_rules.specs.Faults.Nearest.{difference, least, is_within, is_nearest, nearest, nearness}

and_true : (a : Bool) → a ≡ (a && true)
and_true true = refl
and_true false = refl

and_assoc : (a b c : Bool) → ((a && b) && c) ≡ (a && (b && c))
and_assoc true b c = refl
and_assoc false b c = refl

le_min : (a b c : ℕ) → nat_le a (min b c) ≡ (nat_le a b && nat_le a c)
le_min a b c = grind arith

-- a number is at most the least difference if it is at most the bound and each of them
pub least_is : (text : List ℕ) (a bound : ℕ) (ps : List (List ℕ)) → nat_le a (least text bound ps) ≡ (nat_le a bound && list_all (λ q. nat_le a (difference text q)) ps)
least_is text a bound [] = and_true (nat_le a bound)
least_is text a bound (p ∷ ps) =
    least_is text a (min bound (difference text p)) ps ∙ ap (λ b. b && list_all (λ q. nat_le a (difference text q)) ps) (le_min a bound (difference text p))
    ∙ and_assoc (nat_le a bound) (nat_le a (difference text p)) (list_all (λ q. nat_le a (difference text q)) ps)

find_same : {X : Type 0} (f g : X → Bool) → ((x : X) → f x ≡ g x) → (xs : List X) → find f xs ≡ find g xs
find_same f g same [] = refl
find_same f g same (x ∷ xs) = ap (λ b. if b then Some x else find f xs) (same x) ∙ ap (λ o. if g x then Some x else o) (find_same f g same xs)

-- the first that is as near as the nearest is the first of these
pub nearest_is : (text : List ℕ) (phrases : List (List ℕ)) (far : ℕ) → far ≡ least text (nearness text) phrases → find (is_within text far) phrases ≡ nearest text phrases
nearest_is text phrases far e =
    ap (λ n. find (is_within text n) phrases) e ∙ find_same (is_within text (least text (nearness text) phrases)) (is_nearest text phrases) (λ p. least_is text (difference text p) (nearness text) phrases) phrases
