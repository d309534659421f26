-- The first phrase of a line that isn't declared.
use Rattle.std.specs.Prelude.{ℕ, ◌+◌, ◌-◌, ◌==◌, Bool, true, false, not, ◌&&◌, if◌then◌else◌, List, [], ◌∷◌, codes, drop, Option, Some, None}
use Rattle.opa_words.specs.declared.kinds.Token.{Token}
use Rattle.opa_words.specs.Reserved.{is_reserved, is_ending}
use Rattle.opa_sentence.specs.declared.class.Class.{Class}
use Rattle.opa_sentence.specs.declared.class.Class.TheVariants as class
use Rattle.opa_sentence.specs.Lexemes.{Lexeme, lexeme, lexemes}
use Rattle.opa_sentence.specs.Phrases.{is_word, is_wordlike, longest}

-- a Word or a Number that doesn't end a line
abbrev pub is_inner : Lexeme → Bool
is_inner t = is_wordlike t.class && not (is_ending t.text)

abbrev pub goes_on : List Lexeme → Bool
goes_on [] = false
goes_on (t ∷ ts) = is_inner t

abbrev pub is_open : Class → Bool
is_open class.Open = true
is_open c = false

abbrev pub opens : List Lexeme → Bool
opens [] = false
opens (t ∷ ts) = is_open t.class

-- a phrase may begin here: with a Word that isn't reserved, and isn't the name of a function before its bracket
abbrev pub begins : List Lexeme → Bool
begins [] = false
begins (t ∷ ts) = is_word t.class && not (is_reserved t.text) && not (opens ts)

-- so many tokens are a phrase that is known, unless more words follow
abbrev pub unless_more : List Lexeme → Option (ℕ × ℕ) → ℕ
unless_more ts None = 0
unless_more ts (Some x) = if goes_on (drop x.1 ts) then 0 else x.1

-- how many tokens are no phrase, or one that is known
abbrev pub known : List (List ℕ) → List Lexeme → ℕ
known phrases ts = if begins ts then unless_more ts (longest phrases ts) else 1

-- so many tokens, or if none how many are no phrase, or one that is known
abbrev pub counted : List (List ℕ) → List Lexeme → ℕ → ℕ
counted phrases ts k = if k == 0 then known phrases ts else k

-- What is left of the tokens of a text, behind so many, from the first phrase on that isn't known.
abbrev pub unknown : List (List ℕ) → List ℕ → ℕ → List Token → List Token
unknown phrases text k [] = []
unknown phrases text k (t ∷ ts) = let n = counted phrases (lexemes text (t ∷ ts)) k in if n == 0 then t ∷ ts else unknown phrases text (n - 1) ts

-- how many tokens the phrase at the front has
abbrev pub inner : List ℕ → List Token → ℕ
inner text [] = 0
inner text (t ∷ ts) = if is_inner (lexeme text t) then inner text ts + 1 else 0

-- how lines over groups of a list begin
abbrev pub heads : List (List ℕ)
heads = codes "for all of" ∷ codes "for at least one of" ∷ []
