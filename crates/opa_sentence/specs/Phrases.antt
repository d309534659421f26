-- Which phrase stands at the front of tokens.
use Rattle.std.specs.Prelude.{ℕ, zero, suc, List, [], ◌∷◌, length, take, map, Bool, true, false, Option, None, if◌then◌else◌}
use Rattle.std.specs.Option.{option_map, option_or}
use Rattle.opa_words.specs.Reserved.{joined}
use Rattle.opa_words.specs.Phrases.{first_position}
use Rattle.opa_sentence.specs.declared.class.Class.{Class}
use Rattle.opa_sentence.specs.declared.class.Class.TheVariants as class
use Rattle.opa_sentence.specs.Lexemes.{Lexeme}

-- the text of the first tokens, so many: theirs, joined by one space
abbrev pub front_text : ℕ → List Lexeme → List ℕ
front_text n ts = joined (map (λ t. t.text) (take n ts))

-- the phrase whose text the first tokens have, so many, with their number
abbrev pub phrase_at : List (List ℕ) → ℕ → List Lexeme → Option (ℕ × ℕ)
phrase_at phrases n ts = option_map (λ i. (i, n)) (first_position (front_text n ts) 0 phrases)

-- the longest phrase that so many of the first tokens have room for
abbrev pub longest_within : List (List ℕ) → ℕ → List Lexeme → Option (ℕ × ℕ)
longest_within phrases zero ts = None
longest_within phrases (suc n) ts = option_or (phrase_at phrases (suc n) ts) (longest_within phrases n ts)

-- The longest phrase that stands at the front of tokens: its position, the first of equal ones, and how many tokens it has.
abbrev pub longest : List (List ℕ) → List Lexeme → Option (ℕ × ℕ)
longest phrases ts = longest_within phrases (length ts) ts

abbrev pub is_word : Class → Bool
is_word class.Word = true
is_word (class.Function f) = true
is_word class.Not = true
is_word class.And = true
is_word class.Or = true
is_word class.True = true
is_word class.False = true
is_word class.Uncertain = true
is_word c = false

-- a Word or a Number
abbrev pub is_wordlike : Class → Bool
is_wordlike class.Number = true
is_wordlike c = is_word c

-- what follows the Word and Number tokens at the front
abbrev pub past_words : List Lexeme → List Lexeme
past_words [] = []
past_words (t ∷ ts) = if is_wordlike t.class then past_words ts else t ∷ ts
