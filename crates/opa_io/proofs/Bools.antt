-- Laws of tests.
use Rattle.std.proofs.Common.{Bool, false, not, refl, sym, true, ◌∙◌, ◌≡◌}
use Rattle.std.specs.Prelude.{◌&&◌, ◌||◌}
use mathlib.Core.Bool.{true≢false}

-- both hold, so the first does
pub and_first : (a b : Bool) → (a && b) ≡ true → a ≡ true
and_first true b h = refl
and_first false b h = absurd (cc h)

-- both hold, so the second does
pub and_second : (a b : Bool) → (a && b) ≡ true → b ≡ true
and_second true b h = h
and_second false b h = absurd (cc h)

-- neither holds, so the first does not
pub neither_first : (a b : Bool) → (a || b) ≡ false → a ≡ false
neither_first true b h = absurd (cc h)
neither_first false b h = refl

-- neither holds, so the second does not
pub neither_second : (a b : Bool) → (a || b) ≡ false → b ≡ false
neither_second true b h = absurd (cc h)
neither_second false b h = h

-- anything or what holds
pub or_true : (b : Bool) → (b || true) ≡ true
or_true true = refl
or_true false = refl

-- anything or what does not hold
pub or_false : (b : Bool) → (b || false) ≡ b
or_false true = refl
or_false false = refl

-- anything and what does not hold
pub and_false : (b : Bool) → (b && false) ≡ false
and_false true = refl
and_false false = refl

-- anything and what holds
pub and_true : (a : Bool) → (a && true) ≡ a
and_true true = refl
and_true false = refl

-- a test does not both hold and fail
pub never_both : (b : Bool) → b ≡ true → b ≡ false → ⊥
never_both b h g = true≢false (sym h ∙ g)

-- two tests that hold together are the same
pub same_truth : (b c : Bool) → (b ≡ true → c ≡ true) → (c ≡ true → b ≡ true) → b ≡ c
same_truth true c f g = sym (f refl)
same_truth false true f g = g refl
same_truth false false f g = refl

-- an alternative more
pub or_more : (a b c : Bool) → (a || b) ≡ true → (a || (b || c)) ≡ true
or_more true b c h = refl
or_more false true c h = refl
or_more false false c h = absurd (cc h)

-- what is not not so
pub not_twice : (b : Bool) → not (not b) ≡ b
not_twice true = refl
not_twice false = refl

-- three alternatives, whichever two go first
pub or_assoc : (x y z : Bool) → (x || (y || z)) ≡ ((x || y) || z)
or_assoc true y z = refl
or_assoc false y z = refl
