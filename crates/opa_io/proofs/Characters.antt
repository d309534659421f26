-- Laws of characters and texts.
use Rattle.std.proofs.Common.{List, arith, refl, true, ℕ, ◌≡◌}
use Rattle.std.proofs.lemmas.Slice.Eq.{bytes_eq-Decides}
use Rattle.std.specs.Cmp.Lexicographic.{bytes_decides}
use Rattle.std.specs.Prelude.{◌==◌}
use Rattle.std.specs.Str.{bytes_eq}

-- the test for a quote
pub quote_is : (c : ℕ) → (c == 34) ≡ true → c ≡ 34
quote_is c e = grind (arith, e)

-- a quote passes it
pub quote_test : (b : ℕ) → b ≡ 34 → (b == 34) ≡ true
quote_test b h = grind (arith, h)

-- texts of equal bytes
pub same_bytes : (xs ys : List ℕ) → bytes_eq xs ys ≡ true → xs ≡ ys
same_bytes xs ys h = (bytes_decides xs ys).0 h

-- a text has the bytes of itself
pub own_bytes : (t : List ℕ) → bytes_eq t t ≡ true
own_bytes t = (bytes_eq-Decides t t).1 refl
