-- The blanks at the front of a line.
use Rattle.std.proofs.Common.{◌≡◌, ◌≢◌, ℕ, List, [], ◌∷◌, false, ap, arith}
use Rattle.opa_words.specs.Layout.Indents.{is_blank, NoBlankFirst}

is_neither : (b : ℕ) → b ≢ 32 → b ≢ 9 → is_blank b ≡ false
is_neither b p q = grind arith

pub no_blank : (bs : List ℕ) → ((rest : List ℕ) → bs ≢ 9 ∷ rest) → ((rest : List ℕ) → bs ≢ 32 ∷ rest) → NoBlankFirst bs
no_blank [] p q = tt
no_blank (b ∷ bs) p q = is_neither b (λ e. q bs (ap (λ x. x ∷ bs) e)) (λ e. p bs (ap (λ x. x ∷ bs) e))
