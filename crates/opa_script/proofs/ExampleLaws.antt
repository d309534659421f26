-- One more person, and one more line.
use Rattle.std.proofs.Common.{◌≡◌, ◌+◌, ℕ, suc, List, [], ◌∷◌, ◌++◌, refl, sym, ap, ◌∙◌, append_assoc, add-one}
use Rattle.opa_script.specs.Examples.{people, answers, gap_before, person, answer_line}

pub people_start : [] ≡ people 0
unfolding people
people_start = refl

people_suc : (n : ℕ) → people n ++ (gap_before (suc n) ++ person (suc n)) ≡ people (suc n)
unfolding people
people_suc n = refl

pub people_more : (out mid new g p : List ℕ) (k : ℕ) → mid ≡ out ++ g → new ≡ mid ++ p → out ≡ people k → g ≡ gap_before (k + 1) → p ≡ person (k + 1) → new ≡ people (k + 1)
people_more out mid new g p k a b c d e =
    let n : k + 1 ≡ suc k = add-one k in
    b ∙ ap (λ x. x ++ p) a ∙ append_assoc out g p
    ∙ ap (λ x. x ++ (g ++ p)) c ∙ ap (λ x. people k ++ (x ++ p)) d ∙ ap (λ x. people k ++ (gap_before (k + 1) ++ x)) e
    ∙ ap (λ x. people k ++ (gap_before x ++ person x)) n ∙ people_suc k ∙ ap people (sym n)

pub answers_start : (seed : ℕ) → [] ≡ answers seed 0
unfolding answers
answers_start seed = refl

answers_suc : (seed n : ℕ) → answers seed n ++ (answer_line seed (suc n) ++ 10 ∷ []) ≡ answers seed (suc n)
unfolding answers
answers_suc seed n = refl

pub answers_more : (out mid new p : List ℕ) (seed k : ℕ) → mid ≡ out ++ p → new ≡ mid ++ 10 ∷ [] → out ≡ answers seed k → p ≡ answer_line seed (k + 1) → new ≡ answers seed (k + 1)
answers_more out mid new p seed k a b c d =
    let n : k + 1 ≡ suc k = add-one k in
    b ∙ ap (λ x. x ++ 10 ∷ []) a ∙ append_assoc out p (10 ∷ [])
    ∙ ap (λ x. x ++ (p ++ 10 ∷ [])) c ∙ ap (λ x. answers seed k ++ (x ++ 10 ∷ [])) d
    ∙ ap (λ x. answers seed k ++ (answer_line seed x ++ 10 ∷ [])) n ∙ answers_suc seed k ∙ ap (answers seed) (sym n)
