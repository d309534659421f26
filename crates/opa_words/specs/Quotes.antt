-- Texts between quotes, in bytes as in characters.
use Rattle.std.specs.Prelude.{◌≡◌, ℕ, List, [], ◌∷◌, ◌++◌, false, ◌==◌}
use Rattle.std.specs.List.{list_any}
use Rattle.opa_words.specs.Kinds.{quoted}

abbrev pub HasNoQuote : List ℕ → Type 0
HasNoQuote bs = list_any (λ b. b == 34) bs ≡ false

-- the first quote stands between these
abbrev pub SplitsAtQuote : List ℕ → List ℕ → List ℕ → Type 0
SplitsAtQuote bs front later = (bs ≡ front ++ 34 ∷ later) × HasNoQuote front

abbrev pub BeginsWithQuote : List ℕ → Type 0
BeginsWithQuote [] = ⊥
BeginsWithQuote (b ∷ bs) = b ≡ 34

-- the bytes are a text between quotes
abbrev pub IsQuoted : List ℕ → Type 0
IsQuoted bs = (inner : List ℕ) × (bs ≡ quoted inner)

-- no two texts are written alike between quotes
abbrev pub QuotedTellsApart : Type 0
QuotedTellsApart = (bs cs : List ℕ) → quoted bs ≡ quoted cs → bs ≡ cs
