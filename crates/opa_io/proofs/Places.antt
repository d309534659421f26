-- Laws of lists at places.
use Rattle.std.proofs.Common.{[], add-one, ap, arith, drop, drop-cons, get_or, length, refl, subst, suc, sym, take, zero, ◌+◌, ◌<◌, ◌∙◌, ◌∷◌, ◌≤◌}
use Rattle.std.proofs.lemmas.List.{take_all}
use Rattle.std.proofs.lemmas.List.Elements.{All-get_or, All-head, All-tail}
use Rattle.std.proofs.lemmas.Option.{get_or_from_slice_get, slice_get_within}
use Rattle.std.specs.Prelude.{All, List, Some, slice_get, ℕ, ◌≡◌}

-- what holds of all holds of the one at a place
pub All_at : {X : Type 0} (P : X → Type 0) (xs : List X) (n : ℕ) (x : X) → slice_get xs n ≡ Some x → All P xs → P x
All_at P xs n x at all = subst P (get_or_from_slice_get xs n x x at) (All-get_or P xs n x (slice_get_within xs n x at) all)

-- what all hold, the one at a place holds
pub at_of_All : {X : Type 0} (P : X → Type 0) (xs : List X) (k : ℕ) (x : X) → All P xs → slice_get xs k ≡ Some x → P x
at_of_All P [] k x all e = absurd (cc e)
at_of_All P (y ∷ xs) zero x all e = subst P (cc e) (All-head P y xs all)
at_of_All P (y ∷ xs) (suc k) x all e = at_of_All P xs k x (All-tail P y xs all) e

-- what is left from a place on begins with the item there, as it is read
pub drop_from : {A : Type 0} (items : List A) (place : ℕ) (x : A) → place < length items → x ≡ get_or items place x → drop place items ≡ x ∷ drop (place + 1) items
drop_from items place x lt is = drop-cons items place x lt ∙ ap (λ y. y ∷ drop (suc place) items) (sym is) ∙ ap (λ n. x ∷ drop n items) (sym (add-one place))

-- what is left from a place on begins with the item there
pub drop_at : {X : Type 0} (xs : List X) (n : ℕ) (x : X) → slice_get xs n ≡ Some x → drop n xs ≡ x ∷ drop (n + 1) xs
drop_at [] n x e = absurd (cc e)
drop_at (y ∷ ys) zero x e = let f : y ≡ x = cc e in ap (λ z. z ∷ ys) f
drop_at (y ∷ ys) (suc n) x e = drop_at ys n x e ∙ ap (λ k. x ∷ drop k (y ∷ ys)) (let f : suc (n + 1) ≡ suc n + 1 = omega arith in f)

-- a list is its own front, if that is long enough
pub take_whole : {X : Type 0} (xs : List X) (n : ℕ) → length xs ≤ n → take n xs ≡ xs
take_whole xs n le = take_all n xs le

-- nothing is left behind the end
pub drop_whole : {X : Type 0} (xs : List X) → drop (length xs) xs ≡ []
drop_whole [] = refl
drop_whole (x ∷ xs) = drop_whole xs
