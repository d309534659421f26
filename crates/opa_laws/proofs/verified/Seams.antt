-- A text is cut before and behind an ASCII character.
use Rattle.std.proofs.Common.{◌≡◌, ◌∙◌, ℕ, suc, ◌+◌, ◌<◌, List, [], ◌∷◌, ◌++◌, length, drop, get_or, refl, sym, ap, subst, arith, length-append}
use Rattle.std.specs.Str.{IsUtf8}
use Rattle.std.proofs.lemmas.Str.{IsUtf8-take, IsUtf8-drop, IsCharBoundary-before_ascii, IsCharBoundary-after_ascii}
use Rattle.opa_verify.proofs.spelling.Cutting.{taken}

at_seam : (xs : List ℕ) (b : ℕ) (ys : List ℕ) → get_or (xs ++ b ∷ ys) (length xs) 0 ≡ b
at_seam [] b ys = refl
at_seam (x ∷ xs) b ys = at_seam xs b ys

dropped : (xs : List ℕ) (b : ℕ) (ys : List ℕ) → drop (suc (length xs)) (xs ++ b ∷ ys) ≡ ys
dropped [] b ys = refl
dropped (x ∷ xs) b ys = dropped xs b ys

module _ (xs : List ℕ) (b : ℕ) (ys : List ℕ) (ascii : b < 128) (utf8 : IsUtf8 (xs ++ b ∷ ys)) where
  within : length xs < length (xs ++ b ∷ ys)
  within = let e = length-append xs (b ∷ ys) in omega (arith, e)

  is_ascii : get_or (xs ++ b ∷ ys) (length xs) 0 < 128
  is_ascii = subst (λ c. c < 128) (sym (at_seam xs b ys)) ascii

  -- what stands before it
  pub before : IsUtf8 xs
  before = subst IsUtf8 (taken xs (b ∷ ys)) (IsUtf8-take (xs ++ b ∷ ys) (length xs) utf8 (IsCharBoundary-before_ascii (xs ++ b ∷ ys) (length xs) within is_ascii))

  -- what follows it
  pub behind : IsUtf8 ys
  behind =
      let next : length xs + 1 ≡ suc (length xs) = omega arith in
      subst IsUtf8 (ap (λ n. drop n (xs ++ b ∷ ys)) next ∙ dropped xs b ys) (IsUtf8-drop (xs ++ b ∷ ys) (length xs + 1) utf8 (IsCharBoundary-after_ascii (xs ++ b ∷ ys) (length xs) utf8 within is_ascii))
