-- Which phrase stands among the tokens of a text.
use Rattle.std.specs.Prelude.{◌≡◌, ◌≤◌, ◌<◌, ◌+◌, ℕ, List, [], ◌∷◌, ◌++◌, length, take, drop, Bool, Option, Some, None, ◌==◌, nat_lt, if◌then◌else◌, slice_get}
use Rattle.std.specs.Option.{option_map, option_or}
use Rattle.std.specs.Str.{bytes_eq}
use Rattle.opa_words.specs.declared.kinds.Token.{Token}
use Rattle.opa_words.specs.Places.{token_text}
use Rattle.opa_words.specs.Reserved.{phrase_text}

-- the first tokens, so many, spell the phrase
abbrev pub Spells : List ℕ → List Token → List ℕ → ℕ → Type 0
Spells bytes ts phrase n = (0 < n) × (n ≤ length ts) × (phrase ≡ phrase_text bytes (take n ts))

-- The phrase at this position is spelled by so many of the first tokens, by more tokens none is, and by as many none before it.
pub record IsLongestPhrase (phrases : List (List ℕ)) (bytes : List ℕ) (ts : List Token) (i n : ℕ) : Type 0 where
  pub phrase : List ℕ
  pub at : slice_get phrases i ≡ Some phrase
  pub spells : Spells bytes ts phrase n
  pub longest : (j m : ℕ) (other : List ℕ) → slice_get phrases j ≡ Some other → Spells bytes ts other m → m ≤ n
  pub first : (j : ℕ) (other : List ℕ) → j < i → slice_get phrases j ≡ Some other → Spells bytes ts other n → ⊥

-- no phrase is spelled by the first tokens
abbrev pub NoneIsSpelled : List (List ℕ) → List ℕ → List Token → Type 0
NoneIsSpelled phrases bytes ts = (j m : ℕ) (other : List ℕ) → slice_get phrases j ≡ Some other → Spells bytes ts other m → ⊥

-- ---- how it is found

-- the first position of a text, counted from this one
abbrev pub first_position : List ℕ → ℕ → List (List ℕ) → Option ℕ
first_position t k [] = None
first_position t k (p ∷ ps) = if bytes_eq t p then Some k else first_position t (k + 1) ps

-- what is found for each text is its first position
abbrev pub FindsFirst : (List ℕ → Option ℕ) → List (List ℕ) → Type 0
FindsFirst find phrases = (t : List ℕ) → find t ≡ first_position t 0 phrases

-- what is found once a text has this position, unless it had one
abbrev pub FindsAlso : (List ℕ → Option ℕ) → List ℕ → ℕ → (List ℕ → Option ℕ) → Type 0
FindsAlso old text position new = (t : List ℕ) → new t ≡ option_or (old t) (if bytes_eq t text then Some position else None)

abbrev pub FindsNoneWider : (List ℕ → Option ℕ) → ℕ → Type 0
FindsNoneWider find widest = (t : List ℕ) → widest < length t → find t ≡ None

-- nothing is found for the text of more than `few` of the first tokens, up to `many`
abbrev pub FindsNoneFrom : (List ℕ → Option ℕ) → List ℕ → List Token → ℕ → ℕ → Type 0
FindsNoneFrom find bytes ts few many = (m : ℕ) → few < m → m ≤ many → find (phrase_text bytes (take m ts)) ≡ None

-- of the texts of one token, of two and so on up to `many` this is the last that is found, and what is found for it
abbrev pub IsLastFound : (List ℕ → Option ℕ) → List ℕ → List Token → ℕ → Option (ℕ × ℕ) → Type 0
IsLastFound find bytes ts many None = FindsNoneFrom find bytes ts 0 many
IsLastFound find bytes ts many (Some x) = (0 < x.1) × (x.1 ≤ many) × (find (phrase_text bytes (take x.1 ts)) ≡ Some x.0) × FindsNoneFrom find bytes ts x.1 many

abbrev pub found_or : Option (ℕ × ℕ) → Option ℕ → ℕ → Option (ℕ × ℕ)
found_or best None count = best
found_or best (Some position) count = Some (position, count)

-- a word after a front: after a space, if it isn't the first
abbrev pub with_word : List ℕ → Bool → List ℕ → List ℕ
with_word front is_first word = if is_first then front ++ word else front ++ 32 ∷ word

-- what follows the front, where the bytes begin with it
abbrev pub after_front : List ℕ → List ℕ → Option (List ℕ)
after_front front bytes = if bytes_eq (take (length front) bytes) front then Some (drop (length front) bytes) else None

-- after the first token: the phrase ends, or goes on after a space
abbrev pub go_on : (List ℕ → Option ℕ) → Option (List ℕ) → Option ℕ
go_on f None = None
go_on f (Some []) = Some 1
go_on f (Some (b ∷ rest)) = if b == 32 then option_map (λ n. n + 1) (f rest) else None

-- how many of the first tokens spell the phrase
abbrev pub spelled : List ℕ → List Token → List ℕ → Option ℕ
spelled bytes [] phrase = None
spelled bytes (t ∷ ts) phrase = go_on (spelled bytes ts) (after_front (token_text bytes t) phrase)

-- a position with a number of tokens: the one with more tokens, the first of equal ones
abbrev pub longer : Option (ℕ × ℕ) → Option (ℕ × ℕ) → Option (ℕ × ℕ)
longer None o = o
longer (Some a) None = Some a
longer (Some a) (Some b) = if nat_lt a.1 b.1 then Some b else Some a

abbrev pub at_position : ℕ → Option ℕ → Option (ℕ × ℕ)
at_position k = option_map (λ n. (k, n))

-- the longest of phrases whose positions are counted from this one
abbrev pub longest_from : List ℕ → List Token → ℕ → List (List ℕ) → Option (ℕ × ℕ)
longest_from bytes ts k [] = None
longest_from bytes ts k (p ∷ ps) = longer (at_position k (spelled bytes ts p)) (longest_from bytes ts (k + 1) ps)
