-- A text's first character, and what it takes of the bytes.
use Rattle.std.proofs.Common.{◌≡◌, ◌<◌, ℕ, List, [], ◌∷◌, ◌++◌, true, refl, sym, ap, ◌∙◌, subst, length, arith}
use Rattle.std.specs.Prelude.{Some, slice_get}
use Rattle.std.specs.Str.{chars, IsUtf8}
use lib.Utf8.{scalar, scalars, encode, encodes}
use Rattle.std.proofs.lemmas.Str.{chars-encodes}
use Rattle.std.proofs.lemmas.Bool.{and_from}
use Rattle.opa_io.proofs.Bools.{and_first}

-- the first of a text's characters is one
pub first_scalar : (cs : List ℕ) (c : ℕ) → scalars cs ≡ true → Some c ≡ slice_get cs 0 → scalar c ≡ true
first_scalar [] c h e = absurd (cc e)
first_scalar (x ∷ xs) c h e = let one : x ≡ c = cc (sym e) in subst (λ k. scalar k ≡ true) one (and_first (scalar x) (scalars xs) h)

-- a text without bytes has no characters
pub no_characters : (text : List ℕ) → length text ≡ 0 → chars text ≡ []
unfolding chars
no_characters [] e = refl
no_characters (b ∷ bs) e = absurd (omega (arith, e))

-- a character's bytes in front of a text are its first character
pub chars_of_first : (text rest : List ℕ) (c : ℕ) → scalar c ≡ true → IsUtf8 rest → text ≡ encode c ++ rest → chars text ≡ c ∷ chars rest
chars_of_first text rest c is utf8 e =
    let cs = utf8.0 in
    let all : scalars (c ∷ cs) ≡ true = and_from (scalar c) (scalars cs) is utf8.1.0 in
    let left : chars rest ≡ cs = ap chars (sym utf8.1.1) ∙ chars-encodes cs utf8.1.0 in
    ap chars (e ∙ ap (λ s. encode c ++ s) (sym utf8.1.1)) ∙ chars-encodes (c ∷ cs) all ∙ ap (λ s. c ∷ s) (sym left)
