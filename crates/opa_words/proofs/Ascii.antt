-- ASCII characters are their own bytes.
use Rattle.std.proofs.Common.{◌≡◌, ◌<◌, ℕ, List, [], ◌∷◌, ◌++◌, Bool, true, refl, sym, ap, subst, ◌∙◌, arith}
use Rattle.std.specs.Prelude.{nat_lt}
use Rattle.std.specs.List.{list_all}
use Rattle.std.specs.Str.{chars, IsUtf8}
use lib.Utf8.{scalar, scalars, encodes}
use Rattle.std.proofs.lemmas.Str.{encode_ascii, chars-encodes}
use Rattle.std.proofs.lemmas.Bool.{and_from}
use Rattle.opa_io.proofs.Bools.{and_first, and_second}
use Rattle.opa_words.specs.Kinds.{IsToken}
use Rattle.opa_words.specs.PieceLaws.{AsciiIsToken}

abbrev pub is_ascii : ℕ → Bool
is_ascii b = nat_lt b 128

small : (b : ℕ) → is_ascii b ≡ true → b < 128
small b h = grind (arith, h)

small_scalar : (b : ℕ) → b < 128 → scalar b ≡ true
small_scalar b h = grind (arith, h)

ascii_scalars : (bs : List ℕ) → list_all is_ascii bs ≡ true → scalars bs ≡ true
ascii_scalars [] h = refl
ascii_scalars (b ∷ bs) h = and_from (scalar b) (scalars bs) (small_scalar b (small b (and_first (is_ascii b) (list_all is_ascii bs) h))) (ascii_scalars bs (and_second (is_ascii b) (list_all is_ascii bs) h))

ascii_encodes : (bs : List ℕ) → list_all is_ascii bs ≡ true → encodes bs ≡ bs
ascii_encodes [] h = refl
ascii_encodes (b ∷ bs) h = ap (λ x. x ++ encodes bs) (encode_ascii b (small b (and_first (is_ascii b) (list_all is_ascii bs) h))) ∙ ap (λ x. b ∷ x) (ascii_encodes bs (and_second (is_ascii b) (list_all is_ascii bs) h))

pub ascii_utf8 : (bs : List ℕ) → list_all is_ascii bs ≡ true → IsUtf8 bs
ascii_utf8 bs h = (bs, (ascii_scalars bs h, ascii_encodes bs h))

pub ascii_chars : (bs : List ℕ) → list_all is_ascii bs ≡ true → chars bs ≡ bs
ascii_chars bs h = ap chars (sym (ascii_encodes bs h)) ∙ chars-encodes bs (ascii_scalars bs h)

pub ascii_is_token_holds : AsciiIsToken
ascii_is_token_holds k bytes h t = record { utf8 = ascii_utf8 bytes h; token = subst (IsToken k) (sym (ascii_chars bytes h)) t }
