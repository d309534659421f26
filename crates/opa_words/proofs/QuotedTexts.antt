-- Texts between quotes that begin alike.
use Rattle.std.proofs.Common.{◌≡◌, ℕ, List, [], ◌∷◌, ◌++◌, Bool, true, false, cond, refl, sym, ap, ◌∙◌, append_assoc}
use Rattle.std.specs.Prelude.{◌==◌}
use Rattle.opa_io.proofs.Bools.{never_both}
use Rattle.opa_io.proofs.Characters.{quote_test}
use Rattle.opa_words.specs.declared.kinds.TokenKind.TheVariants as kind
use Rattle.opa_words.specs.Kinds.{IsToken, doubled, quoted}

not_quote : (c : ℕ) (t : Bool) → (c == 34) ≡ t → t ≡ false → c ≡ 34 → ⊥
not_quote c t e f q = never_both (c == 34) (quote_test c q) (e ∙ f)

-- after a text between quotes comes a quote, or no longer text between quotes goes on there
goes_on : (xs ys : List ℕ) (c : ℕ) (g : List ℕ) → doubled ys ++ 34 ∷ [] ≡ doubled xs ++ 34 ∷ c ∷ g → c ≡ 34
goes_on [] [] c g e = absurd (cc e)
goes_on [] (y ∷ ys) c g e = go (y == 34) refl e
  where
    go : (t : Bool) → (y == 34) ≡ t → cond t (34 ∷ 34 ∷ doubled ys) (y ∷ doubled ys) ++ 34 ∷ [] ≡ 34 ∷ c ∷ g → c ≡ 34
    go true h k = let f : 34 ≡ c = cc k in sym f
    go false h k = absurd (not_quote y (y == 34) refl h (let f : y ≡ 34 = cc k in f))
goes_on (x ∷ xs) [] c g e = go (x == 34) refl e
  where
    nothing : (zs : List ℕ) → [] ≡ zs ++ 34 ∷ c ∷ g → ⊥
    nothing [] k = absurd (cc k)
    nothing (z ∷ zs) k = absurd (cc k)

    go : (t : Bool) → (x == 34) ≡ t → 34 ∷ [] ≡ cond t (34 ∷ 34 ∷ doubled xs) (x ∷ doubled xs) ++ 34 ∷ c ∷ g → c ≡ 34
    go true h k = absurd (cc k)
    go false h k = absurd (nothing (doubled xs) (let f : [] ≡ doubled xs ++ 34 ∷ c ∷ g = cc k in f))
goes_on (x ∷ xs) (y ∷ ys) c g e = go (x == 34) (y == 34) refl refl e (goes_on xs ys c g)
  where
    go : (s t : Bool) → (x == 34) ≡ s → (y == 34) ≡ t → cond t (34 ∷ 34 ∷ doubled ys) (y ∷ doubled ys) ++ 34 ∷ [] ≡ cond s (34 ∷ 34 ∷ doubled xs) (x ∷ doubled xs) ++ 34 ∷ c ∷ g
        → (doubled ys ++ 34 ∷ [] ≡ doubled xs ++ 34 ∷ c ∷ g → c ≡ 34) → c ≡ 34
    go true true h k e r = r (let f : doubled ys ++ 34 ∷ [] ≡ doubled xs ++ 34 ∷ c ∷ g = cc e in f)
    go true false h k e r = absurd (not_quote y (y == 34) refl k (let f : y ≡ 34 = cc e in f))
    go false true h k e r = absurd (not_quote x (x == 34) refl h (let f : 34 ≡ x = cc e in sym f))
    go false false h k e r = r (let f : doubled ys ++ 34 ∷ [] ≡ doubled xs ++ 34 ∷ c ∷ g = cc e in f)

-- of two texts between quotes that begin alike, the longer one goes on with a quote
pub text_goes_on : (p f : List ℕ) (c : ℕ) (g : List ℕ) → IsToken kind.Text p → IsToken kind.Text f → f ≡ p ++ c ∷ g → c ≡ 34
text_goes_on p f c g s t e =
    let k : quoted t.0 ≡ quoted s.0 ++ c ∷ g = sym t.2 ∙ e ∙ ap (λ x. x ++ c ∷ g) s.2 in
    let m : doubled t.0 ++ 34 ∷ [] ≡ (doubled s.0 ++ 34 ∷ []) ++ c ∷ g = cc k in
    goes_on s.0 t.0 c g (m ∙ append_assoc (doubled s.0) (34 ∷ []) (c ∷ g))
