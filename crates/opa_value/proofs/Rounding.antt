-- Rounding keeps the range, and gives the nearest whole number.
use Rattle.std.proofs.Common.{◌≡◌, ◌%◌, ◌≢◌, ℕ, zero, suc, ◌+◌, ◌*◌, ◌/◌, ◌-◌, ◌^◌, ◌<◌, ◌≤◌, ℤ, pos, negsuc, ◌-ℤ◌, ◌*ℤ◌, ◌<ℤ◌, neg_ℤ, refl, sym, ap, ◌∙◌, subst, arith, Some, ◌≤ℤ◌, inl, inr}
use Rattle.std.proofs.lemmas.Bool.{cases_lt}
use Rattle.std.proofs.lemmas.Int.{ints, unsigned_abs-mul}
use Rattle.std.proofs.Math.IntN.{*ℤ-negsuc}
use Rattle.std.proofs.Math.Nat.{lt-div-mul-add, mul-div-le, mul-le-mul_right}
use Rattle.std.specs.Int.RustNames.{unsigned_abs}
use Rattle.opa_value.specs.Numbers.{InRange}
use Rattle.opa_value.specs.Arithmetic.{signed_as, near, IsNearest, rounded, quotient}

abs_neg : (n : ℕ) → unsigned_abs (neg_ℤ (pos n)) ≡ n
abs_neg zero = refl
abs_neg (suc n) = refl

abs_signed : (x : ℤ) (n : ℕ) → unsigned_abs (signed_as x n) ≡ n
abs_signed (pos _) n = refl
abs_signed (negsuc _) n = abs_neg n

-- m halves up: what the quotient by twice the step says
nearest_bounds : (n s : ℕ) → 0 < s → (2 * ((2 * n + s) / (2 * s) * s) ≤ 2 * n + s) × (2 * n < 2 * ((2 * n + s) / (2 * s) * s) + s)
nearest_bounds n s some =
    let low = mul-div-le (2 * n + s) (2 * s) in
    let high : 2 * n + s < (2 * n + s) / (2 * s) * (2 * s) + 2 * s = lt-div-mul-add (omega arith) in
    (omega (arith, low), omega (arith, high))

-- rounding to a multiple of a step leads past no multiple
multiple_range : (x : ℤ) (k s : ℕ) → 0 < s → unsigned_abs x ≤ k * s → unsigned_abs (near x s *ℤ pos s) ≤ k * s
multiple_range x k s some h =
    let m : ℕ = (2 * unsigned_abs x + s) / (2 * s) in
    let is : unsigned_abs (near x s *ℤ pos s) ≡ m * s = unsigned_abs-mul (near x s) (pos s) ∙ ap (λ n. n * s) (abs_signed x m) in
    let bounds = nearest_bounds (unsigned_abs x) s some in
    let at_most : m ≤ k = elim (cases_lt k m) as (λ _. m ≤ k) [ inl more ↦ absurd (omega (arith, mul-le-mul_right s more, bounds)) | inr less ↦ less ] in
    omega (arith, is, mul-le-mul_right s at_most)

rounded_at : (e : ℕ) (x : ℤ) → e ≤ 4 → InRange x → InRange (near x (10 ^ e) *ℤ pos (10 ^ e))
rounded_at zero x le h = multiple_range x (10 ^ 17) 1 (omega arith) h
rounded_at (suc zero) x le h = multiple_range x (10 ^ 16) 10 (omega arith) h
rounded_at (suc (suc zero)) x le h = multiple_range x (10 ^ 15) 100 (omega arith) h
rounded_at (suc (suc (suc zero))) x le h = multiple_range x (10 ^ 14) 1000 (omega arith) h
rounded_at (suc (suc (suc (suc zero)))) x le h = multiple_range x (10 ^ 13) 10000 (omega arith) h
rounded_at (suc (suc (suc (suc (suc e))))) x le h = absurd (omega arith)

-- a rounded count is in the range
pub rounded_range : (decimals : ℕ) (x : ℤ) → InRange x → InRange (rounded decimals x)
rounded_range decimals x h = rounded_at (4 - decimals) x (omega arith) h

-- a quotient by a divisor of either sign
pub by_below : (x y : ℤ) → y <ℤ pos 0 → Some (near (neg_ℤ x *ℤ pos 10000) (unsigned_abs y)) ≡ quotient x y
by_below x (pos n) h = absurd (omega (arith, ints))
by_below x (negsuc n) h = refl

pub by_above : (x y : ℤ) → y ≢ pos 0 → pos 0 ≤ℤ y → Some (near (x *ℤ pos 10000) (unsigned_abs y)) ≡ quotient x y
by_above x (pos zero) h low = absurd (h refl)
by_above x (pos (suc n)) h low = refl
by_above x (negsuc n) h low = absurd (omega (arith, ints))

pub ruleset quotients = (by_below, by_above)

-- the nearest whole number to the quotient of two sizes, and it alone
size_alone : (n s m : ℕ) → 0 < s → 2 * (m * s) ≤ 2 * n + s → 2 * n < 2 * (m * s) + s → m ≡ (2 * n + s) / (2 * s)
size_alone n s m some low high =
    let k : ℕ = (2 * n + s) / (2 * s) in
    let bounds = nearest_bounds n s some in
    elim (cases_lt m k) as (λ _. m ≡ k) [
      | inl less ↦ absurd (omega (arith, mul-le-mul_right s less, bounds))
      | inr more ↦ elim (cases_lt k m) as (λ _. m ≡ k) [ inl over ↦ absurd (omega (arith, mul-le-mul_right s over, bounds)) | inr at ↦ omega arith ]
    ]

-- what is near says of sizes
pos_near : (n s m : ℕ) → 2 * (m * s) ≤ 2 * n + s → 2 * n < 2 * (m * s) + s → IsNearest (pos n) (pos s) (pos m)
pos_near n s m low high = record { close = omega (arith, ints); half_away = λ half. omega (arith, ints, half) }

neg_near : (n s m : ℕ) → 2 * (m * s) ≤ 2 * suc n + s → 2 * suc n < 2 * (m * s) + s → IsNearest (negsuc n) (pos s) (neg_ℤ (pos m))
neg_near n s zero low high = record { close = omega (arith, ints); half_away = λ half. omega (arith, ints, half) }
neg_near n s (suc m) low high = record { close = omega (arith, ints); half_away = λ half. omega (arith, ints, half) }

-- near has the property
pub near_has : (p : ℤ) (q : ℕ) → 0 < q → IsNearest p (pos q) (near p q)
near_has (pos n) q some = let bounds = nearest_bounds n q some in pos_near n q _ bounds.0 bounds.1
near_has (negsuc n) q some = let bounds = nearest_bounds (suc n) q some in neg_near n q _ bounds.0 bounds.1

-- at one half below, r would be the one nearer to zero
pos_strict : (n q m : ℕ) → 0 < q → IsNearest (pos n) (pos q) (pos m) → 2 * n < 2 * (m * q) + q
pos_strict n q m some h = elim (cases_lt (2 * n) (2 * (m * q) + q)) as (λ _. 2 * n < 2 * (m * q) + q) [
  | inl less ↦ less
  | inr half ↦ let tie : 2 * unsigned_abs (pos m *ℤ pos q -ℤ pos n) ≡ q = omega (arith, ints, h.close, half) in absurd (omega (arith, ints, h.half_away tie, half))
]

neg_strict : (n q m : ℕ) → 0 < q → IsNearest (negsuc n) (pos q) (negsuc m) → 2 * suc n < 2 * (suc m * q) + q
neg_strict n q m some h = elim (cases_lt (2 * suc n) (2 * (suc m * q) + q)) as (λ _. 2 * suc n < 2 * (suc m * q) + q) [
  | inl less ↦ less
  | inr half ↦ let tie : 2 * unsigned_abs (negsuc m *ℤ pos q -ℤ negsuc n) ≡ q = omega (arith, ints, h.close, half) in absurd (omega (arith, ints, h.half_away tie, half))
]

zero_strict : (n q : ℕ) → 0 < q → IsNearest (negsuc n) (pos q) (pos zero) → 2 * suc n < 2 * (zero * q) + q
zero_strict n q some h = elim (cases_lt (2 * suc n) (2 * (zero * q) + q)) as (λ _. 2 * suc n < 2 * (zero * q) + q) [
  | inl less ↦ less
  | inr half ↦ let tie : 2 * unsigned_abs (pos zero *ℤ pos q -ℤ negsuc n) ≡ q = omega (arith, ints, h.close, half) in absurd (omega (arith, ints, h.half_away tie, half))
]

-- and nothing else has it
pub near_alone : (p : ℤ) (q : ℕ) (r : ℤ) → 0 < q → IsNearest p (pos q) r → r ≡ near p q
near_alone (pos n) q (pos m) some h = ap pos (size_alone n q m some (omega (arith, ints, h.close)) (pos_strict n q m some h))
near_alone (pos n) q (negsuc m) some h = absurd (omega (arith, ints, h.close))
near_alone (negsuc n) q (pos zero) some h =
    ap (λ k. neg_ℤ (pos k)) (size_alone (suc n) q zero some (omega (arith, ints, h.close)) (zero_strict n q some h))
near_alone (negsuc n) q (pos (suc m)) some h = absurd (omega (arith, ints, h.close))
near_alone (negsuc n) q (negsuc m) some h =
    ap (λ k. neg_ℤ (pos k)) (size_alone (suc n) q (suc m) some (omega (arith, ints, h.close)) (neg_strict n q m some h))

-- a quotient by a divisor below zero is that with both signs turned
abs_turned : (a p : ℤ) → unsigned_abs (neg_ℤ a -ℤ p) ≡ unsigned_abs (a -ℤ neg_ℤ p)
abs_turned a p = omega (arith, ints)

abs_neg_ℤ : (a : ℤ) → unsigned_abs (neg_ℤ a) ≡ unsigned_abs a
abs_neg_ℤ a = omega (arith, ints)

turn : (p r : ℤ) (n : ℕ) → IsNearest (neg_ℤ p) (pos (suc n)) r → IsNearest p (negsuc n) r
turn p r n h =
    let a : ℤ = r *ℤ pos (suc n) in
    let size : unsigned_abs (r *ℤ negsuc n) ≡ unsigned_abs a = ap unsigned_abs (*ℤ-negsuc r n) ∙ abs_neg_ℤ a in
    let away : unsigned_abs (r *ℤ negsuc n -ℤ p) ≡ unsigned_abs (a -ℤ neg_ℤ p) = ap (λ b. unsigned_abs (b -ℤ p)) (*ℤ-negsuc r n) ∙ abs_turned a p in
    let abs_p = abs_neg_ℤ p in
    record {
      close = omega (arith, away, h.close);
      half_away = λ tie. let less = h.half_away (omega (arith, away, tie)) in omega (arith, size, less, abs_p);
    }

turn_back : (p r : ℤ) (n : ℕ) → IsNearest p (negsuc n) r → IsNearest (neg_ℤ p) (pos (suc n)) r
turn_back p r n h =
    let a : ℤ = r *ℤ pos (suc n) in
    let size : unsigned_abs (r *ℤ negsuc n) ≡ unsigned_abs a = ap unsigned_abs (*ℤ-negsuc r n) ∙ abs_neg_ℤ a in
    let away : unsigned_abs (r *ℤ negsuc n -ℤ p) ≡ unsigned_abs (a -ℤ neg_ℤ p) = ap (λ b. unsigned_abs (b -ℤ p)) (*ℤ-negsuc r n) ∙ abs_turned a p in
    let abs_p = abs_neg_ℤ p in
    record {
      close = omega (arith, away, h.close);
      half_away = λ tie. let less = h.half_away (omega (arith, away, tie)) in omega (arith, size, less, abs_p);
    }

times_turned : (x : ℤ) → neg_ℤ x *ℤ pos 10000 ≡ neg_ℤ (x *ℤ pos 10000)
times_turned (pos zero) = refl
times_turned (pos (suc n)) = refl
times_turned (negsuc n) = omega (arith, ints)

-- a rounded quotient of counts is the count that is nearest to ten thousand times the quotient
pub quotient_has : (x y r : ℤ) → quotient x y ≡ Some r → IsNearest (x *ℤ pos 10000) y r
quotient_has x (pos zero) r h = cc
quotient_has x (pos (suc n)) r h =
    let e : near (x *ℤ pos 10000) (suc n) ≡ r = cc in
    subst (IsNearest (x *ℤ pos 10000) (pos (suc n))) e (near_has (x *ℤ pos 10000) (suc n) (omega arith))
quotient_has x (negsuc n) r h =
    let e : near (neg_ℤ x *ℤ pos 10000) (suc n) ≡ r = cc in
    turn (x *ℤ pos 10000) r n (subst (λ (p : ℤ). IsNearest p (pos (suc n)) r) (times_turned x) (subst (IsNearest (neg_ℤ x *ℤ pos 10000) (pos (suc n))) e (near_has (neg_ℤ x *ℤ pos 10000) (suc n) (omega arith))))

pub quotient_alone : (x y r : ℤ) → y ≢ pos 0 → IsNearest (x *ℤ pos 10000) y r → quotient x y ≡ Some r
quotient_alone x (pos zero) r some h = absurd (some refl)
quotient_alone x (pos (suc n)) r some h = ap Some (sym (near_alone (x *ℤ pos 10000) (suc n) r (omega arith) h))
quotient_alone x (negsuc n) r some h =
    ap Some (sym (near_alone (neg_ℤ x *ℤ pos 10000) (suc n) r (omega arith) (subst (λ (p : ℤ). IsNearest p (pos (suc n)) r) (sym (times_turned x)) (turn_back (x *ℤ pos 10000) r n h))))

pub ruleset near_laws = (near_has, near_alone)

-- a count rounded to two decimals is a multiple of 100, so that two decimals show it
pub rounded_cents : (x : ℤ) → unsigned_abs (rounded 2 x) % 100 ≡ 0
rounded_cents x =
    let is : unsigned_abs (near x 100 *ℤ pos 100) ≡ unsigned_abs (near x 100) * 100 = unsigned_abs-mul (near x 100) (pos 100) in
    omega (arith, is)
