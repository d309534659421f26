-- Lists that are equal item by item.
use Rattle.std.proofs.Common.{◌≡◌, ℕ, suc, ◌+◌, ◌<◌, ◌∙◌, sym, ap, List, [], ◌∷◌, ◌++◌, take, length, Some, arith}
use Rattle.std.proofs.Math.ListN.{get_or}
use Rattle.std.proofs.Math.Seq.{take-suc, take-length}
use Rattle.std.proofs.lemmas.Option.{slice_get_within, get_or_from_slice_get}
use Rattle.std.specs.List.{slice_get}

module _ {X : Type 0} where
  front_more : (xs : List X) (i : ℕ) (x : X) → i < length xs → get_or xs i x ≡ x → take (i + 1) xs ≡ take i xs ++ x ∷ []
  front_more xs i x within is = let same : i + 1 ≡ suc i = omega arith in ap (λ n. take n xs) same ∙ take-suc xs i x within ∙ ap (λ y. take i xs ++ y ∷ []) is

  -- fronts that are equal are so with a further item
  pub fronts_grow : (xs ys : List X) (n : ℕ) (x y : X) → take n xs ≡ take n ys → slice_get xs n ≡ Some x → slice_get ys n ≡ Some y → x ≡ y → take (n + 1) xs ≡ take (n + 1) ys
  fronts_grow xs ys n x y before at other same =
      front_more xs n x (slice_get_within xs n x at) (get_or_from_slice_get xs n x x at)
      ∙ ap (λ (zs : List X). zs ++ x ∷ []) before ∙ ap (λ z. take n ys ++ z ∷ []) same
      ∙ sym (front_more ys n y (slice_get_within ys n y other) (get_or_from_slice_get ys n y y other))

  -- fronts as long as their lists
  pub fronts_are_whole : (xs ys : List X) (n : ℕ) → take n xs ≡ take n ys → n ≡ length xs → n ≡ length ys → xs ≡ ys
  fronts_are_whole xs ys n same whole other =
      sym (take-length xs) ∙ ap (λ m. take m xs) (sym whole) ∙ same ∙ ap (λ m. take m ys) other ∙ take-length ys
