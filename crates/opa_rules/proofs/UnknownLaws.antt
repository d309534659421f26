-- Phrases that aren't known, token by token.
use Rattle.std.proofs.Common.{◌≡◌, ℕ, ◌-◌, ◌==◌, arith, if◌then◌else◌, List, ◌∷◌, sym, ap, ◌∙◌}
use Rattle.opa_words.specs.declared.kinds.Token.{Token}
use Rattle.opa_sentence.specs.Lexemes.{Lexeme, lexemes}
use Rattle.opa_rules.specs.Faults.Unknown.{counted, unknown}

chosen : {X : Type 0} (n : ℕ) (x : X) (f : ℕ → X) → (n ≡ 0 → ⊥) → (if n == 0 then x else f n) ≡ f n
chosen n x f h = grind arith

-- behind a token that isn't the end
pub one_on : (phrases : List (List ℕ)) (text : List ℕ) (k n : ℕ) (rest : List Token) (t : Token) (ts : List Token) (words : List Lexeme) → rest ≡ t ∷ ts → words ≡ lexemes text rest → n ≡ counted phrases words k → (n ≡ 0 → ⊥)
    → unknown phrases text (n - 1) ts ≡ unknown phrases text k rest
one_on phrases text k n rest t ts words r w e h =
    let counts : n ≡ counted phrases (lexemes text (t ∷ ts)) k = e ∙ ap (λ x. counted phrases x k) (w ∙ ap (lexemes text) r) in
    sym (ap (unknown phrases text k) r ∙ ap (λ m. if m == 0 then t ∷ ts else unknown phrases text (m - 1) ts) (sym counts) ∙ chosen n (t ∷ ts) (λ m. unknown phrases text (m - 1) ts) h)
