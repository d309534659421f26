-- A line that is built day by day.
use Rattle.std.proofs.Common.{◌≡◌, ◌⊎◌, inl, inr, ℕ, ◌+◌, ◌<◌, ◌≤◌, List, [], Some, ◌∙◌, ap, arith}
use Rattle.std.proofs.lemmas.Bool.{cases_lt}
use Rattle.opa_date.specs.declared.TheConstants.{DAYS}
use Rattle.opa_line.specs.Lines.{at}
use Rattle.opa_line.specs.Growth.{Grown}

module _ {X : Type 0} (f : ℕ → X) where
  -- the line goes up to the day, and has f's values before it
  pub record Built (day : ℕ) (line : ℕ × List (ℕ × X)) : Type 0 where
    pub upto : line.0 ≡ day
    pub within : day ≤ DAYS
    pub values : (d : ℕ) → d < day → at line.1 d ≡ Some (f d)

  pub built_start : (line : ℕ × List (ℕ × X)) → line ≡ (0, []) → Built 0 line
  built_start line is = record { upto = ap (λ (l : ℕ × List (ℕ × X)). l.0) is; within = omega arith; values = λ d lt. absurd (omega arith) }

  pub built_more : (day : ℕ) (old new : ℕ × List (ℕ × X)) (v : X) → day < DAYS → Built day old → Grown old (day + 1) v new → v ≡ f day → Built (day + 1) new
  built_more day old new v lt b g is = record {
    upto = g.upto.0 (omega (arith, b.upto));
    within = omega (arith, lt);
    values = λ d below. by_day d below (cases_lt d day);
  }
    where
      by_day : (d : ℕ) → d < day + 1 → (d < day) ⊎ (day ≤ d) → at new.1 d ≡ Some (f d)
      by_day d below (inl less) = g.before d (omega (arith, b.upto, less)) ∙ b.values d less
      by_day d below (inr le) = let e : day ≡ d = omega (arith, le, below) in g.from d (omega (arith, b.upto, le)) below ∙ ap Some (is ∙ ap f e)
