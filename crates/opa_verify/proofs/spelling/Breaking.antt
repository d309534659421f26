-- A text has at most one line that breaks it first.
use Rattle.std.proofs.Common.{◌≡◌, ◌⊎◌, inl, inr, ℕ, zero, suc, ◌-◌, ◌<◌, ◌≤◌, List, [], ◌∷◌, ◌++◌, take, drop, refl, sym, ◌∙◌, ap, subst, arith}
use Rattle.std.proofs.lemmas.Bool.{cases_lt}
use Rattle.std.proofs.lemmas.List.{take-append-drop}
use Rattle.opa_verify.specs.declared.spelling.printed.Spelled.{Spelled}
use Rattle.opa_verify.specs.Spelling.Laws.{OneFirstFault, SpelledHasNone}
use Rattle.opa_verify.specs.Spelling.Lines.{Lined}
use Rattle.opa_verify.specs.Spelling.Spelling.{Spells, BeginReport, BreaksAt, IsUnspelledAt}

-- a front of lines, and what of them is behind it
front : (m n : ℕ) (xs : List (List ℕ)) → m ≤ n → (more : List (List ℕ)) × (take n xs ≡ take m xs ++ more)
front zero n xs le = (take n xs, refl)
front (suc m) zero xs le = absurd (omega (arith, le))
front (suc m) (suc n) [] le = ([], refl)
front (suc m) (suc n) (x ∷ xs) le = let rest = front m n xs (omega (arith, le)) in (rest.0, ap (λ ys. x ∷ ys) rest.1)

assoc : (xs ys zs : List (List ℕ)) → (xs ++ ys) ++ zs ≡ xs ++ (ys ++ zs)
assoc [] ys zs = refl
assoc (x ∷ xs) ys zs = ap (λ w. x ∷ w) (assoc xs ys zs)

-- what begins a report has a front that does
begins : (xs ys : List (List ℕ)) → BeginReport (xs ++ ys) → BeginReport xs
begins xs ys (r, (more, (is, e))) = (r, (ys ++ more, (is, e ∙ assoc xs ys more)))

begins_less : (m n : ℕ) (xs : List (List ℕ)) → m ≤ n → BeginReport (take n xs) → BeginReport (take m xs)
begins_less m n xs le h = let f = front m n xs le in begins (take m xs) f.0 (subst (BeginReport) f.1 h)

begins_all : (m : ℕ) (xs : List (List ℕ)) → BeginReport xs → BeginReport (take m xs)
begins_all m xs h = begins (take m xs) (drop m xs) (subst (BeginReport) (sym (take-append-drop m xs)) h)

not_before : (lines : List (List ℕ)) (j k : ℕ) → BreaksAt lines j → BreaksAt lines k → j < k → ⊥
not_before lines j k a b lt = a.1.1.1 (begins_less j (k - 1) lines (omega (arith, lt)) b.1.1.0)

same : (lines : List (List ℕ)) (j k : ℕ) → BreaksAt lines j → BreaksAt lines k → j ≡ k
same lines j k a b = go (cases_lt j k) (cases_lt k j)
  where
    go : (j < k) ⊎ (k ≤ j) → (k < j) ⊎ (j ≤ k) → j ≡ k
    go (inl lt) y = absurd (not_before lines j k a b lt)
    go (inr le) (inl lt) = absurd (not_before lines k j b a lt)
    go (inr le) (inr le') = omega (arith, le, le')

one : (t : Lined) (j k : ℕ) → IsUnspelledAt t j → IsUnspelledAt t k → j ≡ k
one t j k (inl a) (inl b) = same t.lines j k a b
one t j k (inl a) (inr b) = absurd (a.1.1.1 (begins_all j t.lines b.1.0))
one t j k (inr a) (inl b) = absurd (b.1.1.1 (begins_all k t.lines a.1.0))
one t j k (inr a) (inr b) = a.0 ∙ sym b.0

nothing : (xs : List (List ℕ)) → xs ++ [] ≡ xs
nothing [] = refl
nothing (x ∷ xs) = ap (λ ys. x ∷ ys) (nothing xs)

none : (t : Lined) (r : Spelled) (k : ℕ) → Spells t r → IsUnspelledAt t k → ⊥
none t r k s (inl a) = a.1.1.1 (begins_all k t.lines (r, ([], (s.0, sym s.1.0 ∙ sym (nothing t.lines)))))
none t r k s (inr a) = a.1.1 r s

pub one_first_fault_holds : OneFirstFault
one_first_fault_holds t j k a b = one t j k a b

pub spelled_has_none_holds : SpelledHasNone
spelled_has_none_holds t r k s a = none t r k s a
