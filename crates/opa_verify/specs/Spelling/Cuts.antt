-- Where the parts of a printed line are cut: at commas and colons that stand in no text between quotes.
use Rattle.std.specs.Prelude.{◌≡◌, ℕ, Bool, true, false, not, ◌&&◌, ◌||◌, ◌==◌, List, [], ◌∷◌, ◌++◌, if◌then◌else◌}
use Rattle.opa_words.specs.Quotes.{HasNoQuote, BeginsWithQuote}

abbrev pub is_mark : ℕ → Bool
is_mark b = (b == 44) || (b == 58)

-- No mark stands outside quotes, and each quote has its end. The flag says that what follows stands between quotes.
abbrev pub calm : Bool → List ℕ → Bool
calm q [] = not q
calm q (b ∷ bs) = if b == 34 then calm (not q) bs else (q || not (is_mark b)) && calm q bs

-- calm bytes, the first mark behind them, and what follows it
abbrev pub IsCutAt : List ℕ → ℕ → List ℕ → List ℕ → Type 0
IsCutAt front mark rest bytes = (bytes ≡ front ++ mark ∷ rest) × ((calm false front ≡ true) × (is_mark mark ≡ true))

-- bytes before the first quote, and the quote with what follows it
abbrev pub IsQuotedFrom : List ℕ → List ℕ → List ℕ → Type 0
IsQuotedFrom front rest bytes = (bytes ≡ front ++ rest) × (HasNoQuote front × BeginsWithQuote rest)
