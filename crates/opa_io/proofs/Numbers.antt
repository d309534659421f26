-- Laws of numbers.
use Rattle.std.proofs.Common.{Bool, List, Some, [], ap, arith, cond, false, refl, sym, true, ℕ, ◌+◌, ◌∙◌, ◌∷◌, ◌≡◌}
use Rattle.std.specs.Prelude.{find, neg_ℤ, pos, ℤ, ◌+ℤ◌, ◌≤ℤ◌}

-- the first number that passes a test passes it
pub found_passes : (p : ℕ → Bool) (ds : List ℕ) (d : ℕ) → find p ds ≡ Some d → p d ≡ true
found_passes p [] d e = absurd (cc e)
found_passes p (k ∷ ds) d e = go (p k) refl (found_passes p ds d)
  where
    go : (b : Bool) → p k ≡ b → (find p ds ≡ Some d → p d ≡ true) → p d ≡ true
    go true q rest = let same : k ≡ d = cc (e, ap (λ b. cond b (Some k) (find p ds)) q) in sym (ap p same) ∙ q
    go false q rest = rest (sym (ap (λ b. cond b (Some k) (find p ds)) q) ∙ e)

-- a sum, bounded from below
pub sum_above : (a b : ℕ) (x y : ℤ) → (neg_ℤ (pos a) ≤ℤ x) → (neg_ℤ (pos b) ≤ℤ y) → (neg_ℤ (pos (a + b)) ≤ℤ (x +ℤ y))
sum_above a b x y h k = grind (arith, h, k)

-- a sum, bounded from above
pub sum_below : (a b : ℕ) (x y : ℤ) → (x ≤ℤ pos a) → (y ≤ℤ pos b) → ((x +ℤ y) ≤ℤ pos (a + b))
sum_below a b x y h k = grind (arith, h, k)
