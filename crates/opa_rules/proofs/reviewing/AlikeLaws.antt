-- What is found of one place after another.
use Rattle.std.proofs.Common.{◌≡◌, ◌+◌, ℕ, zero, suc, List, [], ◌++◌, Contains, refl, sym, ap, ◌∙◌, subst, ⊎_elim, append-nil, append_assoc, arith}
use Rattle.std.proofs.lemmas.List.Elements.{Contains-append_cases}
use Rattle.opa_tree.proofs.Members.{none_in}
use Rattle.opa_rules.specs.declared.reviewing.finding.Finding.{Finding}
use Rattle.opa_rules.specs.Reviewing.Alike.{placed}

placed_zero : (f : ℕ → List Finding) → placed f 0 ≡ []
unfolding placed
placed_zero f = refl

placed_suc : (f : ℕ → List Finding) (n : ℕ) → placed f (suc n) ≡ placed f n ++ f n
unfolding placed
placed_suc f n = refl

-- of no place
pub none_yet : (fs : List Finding) (f : ℕ → List Finding) → fs ≡ fs ++ placed f 0
none_yet fs f = sym (ap (λ xs. fs ++ xs) (placed_zero f) ∙ append-nil fs)

-- of one place more
pub one_more : (fs old new : List Finding) (f : ℕ → List Finding) (n : ℕ) → old ≡ fs ++ placed f n → new ≡ old ++ f n → new ≡ fs ++ placed f (n + 1)
one_more fs old new f n before is =
    let next : suc n ≡ n + 1 = omega arith in
    is ∙ ap (λ xs. xs ++ f n) before ∙ append_assoc fs (placed f n) (f n) ∙ ap (λ xs. fs ++ xs) (sym (placed_suc f n) ∙ ap (placed f) next)

-- what is found is found of some place
pub placed_out : (f : ℕ → List Finding) (n : ℕ) (x : Finding) → Contains (placed f n) x → (k : ℕ) × Contains (f k) x
placed_out f zero x h = absurd (none_in x (subst (λ fs. Contains fs x) (placed_zero f) h))
placed_out f (suc n) x h = ⊎_elim (placed_out f n x) (λ here. (n, here)) (Contains-append_cases (placed f n) (f n) x (subst (λ fs. Contains fs x) (placed_suc f n) h))
