-- What Unicode says of the letters and marks among ASCII.
use Rattle.std.proofs.Common.{◌≡◌, ◌<◌, ◌≤◌, ◌+◌, ℕ, zero, suc, List, [], ◌∷◌, Bool, true, false, refl, sym, subst, arith}
use Rattle.std.specs.Prelude.{◌&&◌, not, nat_eq}
use Rattle.std.specs.Char.{is_ascii, is_ascii_alphabetic}
use Rattle.std.specs.List.{list_all}
use Rattle.unicode.specs.Binary.{is_alphabetic}
use Rattle.unicode.specs.GeneralCategory.{general_category}
use Rattle.unicode.specs.GeneralCategoryGroup.{in_group}
use Rattle.ucd_category.specs.declared.GeneralCategoryGroup.TheVariants.{Mark}
use Rattle.ucd_derived.proofs.Computing.{ucd_derived}
use Rattle.ucd_category.proofs.Computing.{ucd_category}
use Rattle.opa_io.proofs.Bools.{and_first, and_second}

-- the test passes at so many numbers from one on
abbrev holds_from : (ℕ → Bool) → ℕ → ℕ → Bool
holds_from p from zero = true
holds_from p from (suc n) = p from && holds_from p (from + 1) n

at_first : (p : ℕ → Bool) (from c : ℕ) (t : Bool) → nat_eq from c ≡ t → p from ≡ true → (from + 1 ≤ c → p c ≡ true) → from ≤ c → p c ≡ true
at_first p from c true e here later low = let one : from ≡ c = grind (arith, e) in subst (λ k. p k ≡ true) one here
at_first p from c false e here later low = later (grind (arith, e, low))

at_each : (p : ℕ → Bool) (from n c : ℕ) → holds_from p from n ≡ true → from ≤ c → c < from + n → p c ≡ true
at_each p from zero c h low high = absurd (omega (arith, low, high))
at_each p from (suc n) c h low high =
    at_first p from c (nat_eq from c) refl (and_first (p from) (holds_from p (from + 1) n) h)
    (λ above. at_each p (from + 1) n c (and_second (p from) (holds_from p (from + 1) n) h) above (omega (arith, high))) low

abbrev same : Bool → Bool → Bool
same true b = b
same false b = not b

same_is : (a b : Bool) → same a b ≡ true → a ≡ b
same_is true b h = sym h
same_is false true h = absurd (cc h)
same_is false false h = refl

letters_agree : holds_from (λ c. same (is_ascii_alphabetic c) (is_alphabetic c)) 0 128 ≡ true
unfolding ucd_derived
letters_agree = refl

marks_are_none : holds_from (λ c. same false (in_group Mark (general_category c))) 0 128 ≡ true
unfolding ucd_category
marks_are_none = refl

small : (c : ℕ) → is_ascii c ≡ true → c < 0 + 128
small c h = grind (arith, h)

pub ascii_letter : (c : ℕ) → is_ascii c ≡ true → is_ascii_alphabetic c ≡ is_alphabetic c
ascii_letter c h = same_is (is_ascii_alphabetic c) (is_alphabetic c) (at_each (λ k. same (is_ascii_alphabetic k) (is_alphabetic k)) 0 128 c letters_agree (omega arith) (small c h))

pub ascii_no_mark : (c : ℕ) → is_ascii c ≡ true → false ≡ in_group Mark (general_category c)
ascii_no_mark c h = same_is false (in_group Mark (general_category c)) (at_each (λ k. same false (in_group Mark (general_category k))) 0 128 c marks_are_none (omega arith) (small c h))
