-- The text that stands between quotes.
use Rattle.std.specs.Prelude.{◌≡◌, ℕ, List, [], ◌∷◌, Bool, true, false, ◌==◌, if◌then◌else◌}
use Rattle.opa_words.specs.Kinds.{quoted}

-- Each pair of quotes as one, up to the quote that ends the text. The flag says that a quote came last.
abbrev pub inside : Bool → List ℕ → List ℕ
inside last [] = []
inside false (c ∷ cs) = if c == 34 then inside true cs else c ∷ inside false cs
inside true (c ∷ cs) = if c == 34 then 34 ∷ inside false cs else []

abbrev pub after_quote : List ℕ → List ℕ
after_quote [] = []
after_quote (c ∷ cs) = if c == 34 then cs else c ∷ cs

-- what the text of a Text token stands for
abbrev pub unquoted : List ℕ → List ℕ
unquoted cs = inside false (after_quote cs)

-- it is the text that stands between the quotes
abbrev pub ReadsQuoted : Type 0
ReadsQuoted = (text : List ℕ) → unquoted (quoted text) ≡ text
