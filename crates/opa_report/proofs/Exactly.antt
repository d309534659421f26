-- Runs have the days of their set, and no others.
use Rattle.std.proofs.Common.{◌≡◌, ◌⊎◌, ◌↔◌, inl, inr, ℕ, ◌-◌, ◌<◌, ◌≤◌, Bool, true, false, cond, List, [], ◌∷◌, ◌++◌, Some, Contains, refl, sym, ◌∙◌, ap, subst, arith}
use Rattle.std.proofs.lemmas.Bool.{le-leb, lt-leb, cases_lt}
use Rattle.std.proofs.lemmas.List.Elements.{Contains-append_left, Contains-append_right, Contains-append_cases}
use Rattle.opa_date.specs.declared.TheConstants.{DAYS}
use Rattle.opa_value.specs.declared.value.Value.{Value}
use Rattle.opa_line.specs.Lines.{at, value_from, Follows, IsLine, canon}
use Rattle.opa_line.proofs.LineLaws.{canon_is_the_line}
use Rattle.opa_report.specs.DaySets.Spans.{upto}
use Rattle.opa_tree.proofs.Members.{none_in, contains_head, contains_cases}
use Rattle.opa_report.specs.declared.mark.Mark.{Mark}
use Rattle.opa_report.specs.declared.mark.Mark.TheVariants.{Absent, Present}
use Rattle.opa_report.specs.Runs.{Run, run_of, same_mark, mark_of, marked, stretches, RunsAreExact}
use Rattle.opa_report.proofs.Stretches.{mark_exact}

abbrev Has : List Run → ℕ → Value → Type 0
Has rs d v = (r : Run) × (Contains rs r × ((r.first ≤ d) × ((d ≤ r.last) × (r.value ≡ v))))

-- before the next pair a line has the pair's mark
next_in : (k : ℕ) (m : Mark) (l : List (ℕ × Mark)) (e : ℕ) → e < upto l → value_from m l e ≡ m
next_in k m [] e lt = refl
next_in k m (p ∷ l) e lt = ap (λ b. cond b (value_from p.1 l e) m) (lt-leb p.0 e lt)

pub next_after : (k : ℕ) (m : Mark) (l : List (ℕ × Mark)) → k < DAYS → Follows DAYS k m l → (k < upto l) × (upto l ≤ DAYS)
next_after k m [] low f = (low, omega arith)
next_after k m (p ∷ l) low f = (f.0, omega (arith, f.1))

one_run : (k end : ℕ) (m : Mark) (d : ℕ) (v : Value) → m ≡ Present v → k ≤ d → d < end → Has (run_of k end m) d v
one_run k end Absent d v e le lt = absurd (cc e)
one_run k end (Present w) d v e le lt = (record { first = k; last = end - 1; value = w }, (contains_head (record { first = k; last = end - 1; value = w }) [], (le, (omega (arith, lt), same e))))
  where
    same : {x y : Value} → Present x ≡ Present y → x ≡ y
    same e = cc e

run_one : (k end : ℕ) (m : Mark) (d : ℕ) (v : Value) → k < end → Has (run_of k end m) d v → (k ≤ d) × ((d < end) × (m ≡ Present v))
run_one k end Absent d v pos h = absurd (none_in h.0 h.1.0)
run_one k end (Present w) d v pos h = go (contains_cases (record { first = k; last = end - 1; value = w }) h.0 [] h.1.0)
  where
    go : (◌≡◌ {A = Run} (record { first = k; last = end - 1; value = w }) h.0) ⊎ Contains [] h.0 → (k ≤ d) × ((d < end) × (Present w ≡ Present v))
    go (inr there) = absurd (none_in h.0 there)
    go (inl e) =
        let first : k ≡ h.0.first = ap (λ (r : Run). r.first) e in let last : end - 1 ≡ h.0.last = ap (λ (r : Run). r.last) e in
        (omega (arith, first, h.1.1.0), (omega (arith, last, h.1.1.1.0, pos), ap Present (ap (λ (r : Run). r.value) e ∙ h.1.1.1.1)))

wider_left : (rs ss : List Run) (d : ℕ) (v : Value) → Has rs d v → Has (rs ++ ss) d v
wider_left rs ss d v (r, h) = (r, (Contains-append_left rs ss r h.0, h.1))

wider_right : (rs ss : List Run) (d : ℕ) (v : Value) → Has ss d v → Has (rs ++ ss) d v
wider_right rs ss d v (r, h) = (r, (Contains-append_right rs ss r h.0, h.1))

narrower : (rs ss : List Run) (d : ℕ) (v : Value) → Has (rs ++ ss) d v → Has rs d v ⊎ Has ss d v
narrower rs ss d v (r, h) = go (Contains-append_cases rs ss r h.0)
  where
    go : Contains rs r ⊎ Contains ss r → Has rs d v ⊎ Has ss d v
    go (inl k) = inl (r, (k, h.1))
    go (inr k) = inr (r, (k, h.1))

complete : (k : ℕ) (m : Mark) (l : List (ℕ × Mark)) (d : ℕ) (v : Value) → Follows DAYS k m l → k ≤ d → d < DAYS → value_from m l d ≡ Present v → Has (stretches ((k, m) ∷ l)) d v
complete k m [] d v f le lt is = wider_left (run_of k DAYS m) [] d v (one_run k DAYS m d v is le lt)
complete k m (p ∷ l) d v f le lt is = go (cases_lt d p.0) (λ low is'. complete p.0 p.1 l d v f.3 low lt is')
  where
    go : (d < p.0) ⊎ (p.0 ≤ d) → (p.0 ≤ d → value_from p.1 l d ≡ Present v → Has (stretches (p ∷ l)) d v) → Has (stretches ((k, m) ∷ p ∷ l)) d v
    go (inl early) rest = wider_left (run_of k p.0 m) (stretches (p ∷ l)) d v (one_run k p.0 m d v (sym (next_in k m (p ∷ l) d early) ∙ is) le early)
    go (inr late) rest = wider_right (run_of k p.0 m) (stretches (p ∷ l)) d v (rest late (sym (ap (λ b. cond b (value_from p.1 l d) m) (le-leb p.0 d late)) ∙ is))

sound : (k : ℕ) (m : Mark) (l : List (ℕ × Mark)) (d : ℕ) (v : Value) → k < DAYS → Follows DAYS k m l → Has (stretches ((k, m) ∷ l)) d v → (k ≤ d) × ((d < DAYS) × (value_from m l d ≡ Present v))
sound k m [] d v low f h = go (narrower (run_of k DAYS m) [] d v h)
  where
    go : Has (run_of k DAYS m) d v ⊎ Has [] d v → (k ≤ d) × ((d < DAYS) × (m ≡ Present v))
    go (inl x) = run_one k DAYS m d v low x
    go (inr x) = absurd (none_in x.0 x.1.0)
sound k m (p ∷ l) d v low f h = go (narrower (run_of k p.0 m) (stretches (p ∷ l)) d v h) (sound p.0 p.1 l d v f.1 f.3)
  where
    go : Has (run_of k p.0 m) d v ⊎ Has (stretches (p ∷ l)) d v → (Has (stretches (p ∷ l)) d v → (p.0 ≤ d) × ((d < DAYS) × (value_from p.1 l d ≡ Present v))) → (k ≤ d) × ((d < DAYS) × (value_from m (p ∷ l) d ≡ Present v))
    go (inl x) rest = let r = run_one k p.0 m d v f.0 x in (r.0, (omega (arith, r.1.0, f.1), next_in k m (p ∷ l) d r.1.0 ∙ r.1.1))
    go (inr x) rest = let r = rest x in (omega (arith, f.0, r.0), (r.1.0, ap (λ b. cond b (value_from p.1 l d) m) (le-leb p.0 d r.0) ∙ r.1.1))

-- of any line of marks
line_exact : (l : List (ℕ × Mark)) → IsLine DAYS l → (d : ℕ) (v : Value) → Has (stretches l) d v ↔ ((d < DAYS) × (at l d ≡ Some (Present v)))
line_exact [] is d v = absurd is
line_exact ((k, m) ∷ l) is d v =
    let follows : Follows DAYS k m l = subst (λ j. Follows DAYS j m l) (sym is.0) is.1 in
    let low : k < DAYS = omega (arith, is.0) in
    (λ h. let r = sound k m l d v low follows h in (r.1.0, ap Some r.1.1), λ h. complete k m l d v follows (omega (arith, is.0)) h.0 (same h.1))
  where
    same : {x y : Mark} → Some x ≡ Some y → x ≡ y
    same e = cc e

marked_is : (b : Bool) (w v : Value) → (mark_of b w ≡ Present v) ↔ ((b ≡ true) × (w ≡ v))
marked_is true w v = (λ h. (refl, same h), λ h. ap Present h.1)
  where
    same : {x y : Value} → Present x ≡ Present y → x ≡ y
    same e = cc e
marked_is false w v = (λ h. absurd (cc h), λ h. absurd (cc h.0))

pub runs_are_exact : RunsAreExact
runs_are_exact set f d v =
    let line = canon same_mark DAYS (marked set f) in let law = canon_is_the_line Mark same_mark mark_exact (marked set f) in (
      λ x. let r = (line_exact line law.0 d v).0 (x.run, (x.there, (x.from, (x.upto_last, x.has_value)))) in (r.0, (marked_is (set d) (f d) v).0 (same (sym (law.1 d r.0) ∙ r.1))),
      λ h. let r = (line_exact line law.0 d v).1 (h.0, law.1 d h.0 ∙ ap Some ((marked_is (set d) (f d) v).1 h.1)) in record { run = r.0; there = r.1.0; from = r.1.1.0; upto_last = r.1.1.1.0; has_value = r.1.1.1.1 },
    )
  where
    same : {x y : Mark} → Some x ≡ Some y → x ≡ y
    same e = cc e
