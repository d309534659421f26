-- What compares two numbers that lie in bounds.
use Rattle.std.proofs.Common.{◌≡◌, ℤ, Bool, true, false, not, [], ◌∷◌, refl, sym, ap, ⊎_elim, arith}
use Rattle.std.specs.Prelude.{int_le, int_lt, ◌||◌, ◌&&◌}
use Rattle.std.specs.Ordering.{int_eq}
use Rattle.std.proofs.lemmas.Bool.{and_parts, or_cases}
use Rattle.opa_value.specs.declared.value.Value.TheVariants.{Bool as Truth, Num}
use Rattle.opa_value.specs.Truth.{is_true}
use Rattle.opa_tree.specs.declared.kinds.OpKind.{OpKind}
use Rattle.opa_tree.specs.declared.kinds.OpKind.TheVariants as op
use Rattle.opa_mean.specs.Operations.{op_of}
use Rattle.opa_rules.specs.declared.reviewing.judging.Bounds.{Bounds}
use Rattle.opa_rules.specs.Reviewing.Compared.{never_true, opposite}

-- ---- numbers

below : (l m n u : ℤ) → int_le l m ≡ true → int_le n u ≡ true → int_lt u l ≡ true → int_lt n m ≡ true
below l m n u low high h = grind (arith, low, high, h)

at_most : (l m n u : ℤ) → int_le l m ≡ true → int_le n u ≡ true → int_le u l ≡ true → int_le n m ≡ true
at_most l m n u low high h = grind (arith, low, high, h)

less_is_not_equal : (m n : ℤ) → int_lt m n ≡ true → ¬ (int_eq m n ≡ true)
less_is_not_equal m n h e = grind (arith, h, e)

more_is_not_equal : (m n : ℤ) → int_lt n m ≡ true → ¬ (int_eq m n ≡ true)
more_is_not_equal m n h e = grind (arith, h, e)

neither_is_equal : (m n : ℤ) → int_le m n ≡ true → int_le n m ≡ true → ¬ (int_eq m n ≡ false)
neither_is_equal m n h k e = grind (arith, h, k, e)

not_less : (m n : ℤ) → int_le n m ≡ true → ¬ (int_lt m n ≡ true)
not_less m n h e = grind (arith, h, e)

both_ways : (b : Bool) → b ≡ true → ¬ (b ≡ false)
both_ways true h e = cc e
both_ways false h e = cc h

not_true : (b : Bool) → not b ≡ true → b ≡ false
not_true true h = sym h
not_true false h = refl

not_false : (b : Bool) → not b ≡ false → b ≡ true
not_false true h = refl
not_false false h = sym h

-- ---- what an operation gives

abbrev pub IsBetween : Bounds → ℤ → Type 0
IsBetween b n = (int_le b.least n ≡ true) × (int_le n b.most ≡ true)

truths : (x y : Bool) → Truth x ≡ Truth y → x ≡ y
truths x y h = ap is_true h

module _ (a b : Bounds) (m n : ℤ) (left : IsBetween a m) (right : IsBetween b n) where
  n_below : int_lt b.most a.least ≡ true → int_lt n m ≡ true
  n_below h = below a.least m n b.most left.0 right.1 h

  m_below : int_lt a.most b.least ≡ true → int_lt m n ≡ true
  m_below h = below b.least n m a.most right.0 left.1 h

  n_at_most : int_le b.most a.least ≡ true → int_le n m ≡ true
  n_at_most h = at_most a.least m n b.most left.0 right.1 h

  m_at_most : int_le a.most b.least ≡ true → int_le m n ≡ true
  m_at_most h = at_most b.least n m a.most right.0 left.1 h

  apart : (int_lt b.most a.least || int_lt a.most b.least) ≡ true → ¬ (int_eq m n ≡ true)
  apart h e = ⊎_elim (λ k. more_is_not_equal m n (n_below k) e) (λ k. less_is_not_equal m n (m_below k) e) (or_cases (int_lt b.most a.least) (int_lt a.most b.least) h)

  same : (int_le b.most a.least && int_le a.most b.least) ≡ true → ¬ (int_eq m n ≡ false)
  same h e = let both = and_parts (int_le b.most a.least) (int_le a.most b.least) h in neither_is_equal m n (m_at_most both.1) (n_at_most both.0) e

  pub never_true_is_so : (k : OpKind) → never_true k a b ≡ true → ¬ (op_of k (Num m ∷ Num n ∷ []) ≡ Truth true)
  never_true_is_so op.Lt h e = not_less m n (n_at_most h) (truths (int_lt m n) true e)
  never_true_is_so op.Gt h e = not_less n m (m_at_most h) (truths (int_lt n m) true e)
  never_true_is_so op.Le h e = both_ways (int_lt n m) (n_below h) (not_true (int_lt n m) (truths (not (int_lt n m)) true e))
  never_true_is_so op.Ge h e = both_ways (int_lt m n) (m_below h) (not_true (int_lt m n) (truths (not (int_lt m n)) true e))
  never_true_is_so op.Eq h e = apart h (truths (int_eq m n) true e)
  never_true_is_so op.Ne h e = same h (not_true (int_eq m n) (truths (not (int_eq m n)) true e))
  never_true_is_so _ h e = cc h

  pub never_false_is_so : (k : OpKind) → never_true (opposite k) a b ≡ true → ¬ (op_of k (Num m ∷ Num n ∷ []) ≡ Truth false)
  never_false_is_so op.Ge h e = not_less m n (n_at_most h) (not_false (int_lt m n) (truths (not (int_lt m n)) false e))
  never_false_is_so op.Le h e = not_less n m (m_at_most h) (not_false (int_lt n m) (truths (not (int_lt n m)) false e))
  never_false_is_so op.Gt h e = both_ways (int_lt n m) (n_below h) (truths (int_lt n m) false e)
  never_false_is_so op.Lt h e = both_ways (int_lt m n) (m_below h) (truths (int_lt m n) false e)
  never_false_is_so op.Ne h e = apart h (not_false (int_eq m n) (truths (not (int_eq m n)) false e))
  never_false_is_so op.Eq h e = same h (truths (int_eq m n) false e)
  never_false_is_so _ h e = cc h
