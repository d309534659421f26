-- What follows the longest token of each kind.
use Rattle.std.specs.Prelude.{ℕ, zero, suc, List, [], ◌∷◌, Bool, true, false, ◌||◌, ◌==◌, Option, Some, None, if◌then◌else◌}
use Rattle.std.specs.Option.{option_map, option_and_then, option_or}
use Rattle.opa_words.specs.declared.kinds.TokenKind.{TokenKind}
use Rattle.opa_words.specs.declared.kinds.TokenKind.TheVariants as kind
use Rattle.opa_words.specs.Characters.{begins_word, continues_word, is_digit, is_control}
use Rattle.opa_words.specs.Kinds.{is_single}

-- what follows the characters at the front that pass
abbrev pub past : (ℕ → Bool) → List ℕ → List ℕ
past p [] = []
past p (c ∷ cs) = if p c then past p cs else c ∷ cs

-- what follows one character that passes
abbrev pub one : (ℕ → Bool) → List ℕ → Option (List ℕ)
one p [] = None
one p (c ∷ cs) = if p c then Some cs else None

abbrev pub digit : List ℕ → Option (List ℕ)
digit = one is_digit

abbrev pub hyphen : List ℕ → Option (List ℕ)
hyphen = one (λ c. c == 45)

abbrev pub word : List ℕ → Option (List ℕ)
word cs = option_map (past continues_word) (one begins_word cs)

-- what follows at most n digits
abbrev pub past_most : ℕ → List ℕ → List ℕ
past_most zero cs = cs
past_most (suc n) [] = []
past_most (suc n) (c ∷ cs) = if is_digit c then past_most n cs else c ∷ cs

-- after a point: one to four digits, or else the point is no part of the number
abbrev pub fraction : List ℕ → Option (List ℕ) → List ℕ
fraction cs None = cs
fraction cs (Some after) = past_most 3 after

abbrev pub point : List ℕ → Option (List ℕ)
point cs = option_and_then digit (one (λ c. c == 46) cs)

abbrev pub whole : List ℕ → List ℕ
whole cs = fraction cs (point cs)

abbrev pub number : List ℕ → Option (List ℕ)
number cs = option_map (λ after. whole (past is_digit after)) (digit cs)

infixl 10 ◌>>=◌
abbrev pub ◌>>=◌ : Option (List ℕ) → (List ℕ → Option (List ℕ)) → Option (List ℕ)
o >>= f = option_and_then f o

abbrev pub date : List ℕ → Option (List ℕ)
date cs = digit cs >>= digit >>= digit >>= digit >>= hyphen >>= digit >>= digit >>= hyphen >>= digit >>= digit

-- what follows the next quote, if no control character stands before it
abbrev pub past_quote : List ℕ → Option (List ℕ)
past_quote [] = None
past_quote (c ∷ cs) = if c == 34 then Some cs else (if is_control c then None else past_quote cs)

-- What follows a text, from inside it on. The flag says that a quote was the last character: the text may end there, or
-- a second quote may go on to a later end.
abbrev pub inside : Bool → List ℕ → Option (List ℕ)
inside true [] = Some []
inside false [] = None
inside true (c ∷ cs) = if c == 34 then option_or (inside false cs) (Some (c ∷ cs)) else Some (c ∷ cs)
inside false (c ∷ cs) = if c == 34 then inside true cs else (if is_control c then None else inside false cs)

abbrev pub text : List ℕ → Option (List ℕ)
text cs = option_and_then (inside false) (one (λ c. c == 34) cs)

-- with a second character, if it passes
abbrev pub second : (ℕ → Bool) → List ℕ → List ℕ
second p [] = []
second p (c ∷ cs) = if p c then cs else c ∷ cs

abbrev pub symbol : List ℕ → Option (List ℕ)
symbol [] = None
symbol (c ∷ cs) = if is_single c then Some cs else (if c == 60 then Some (second (λ d. (d == 61) || (d == 62)) cs) else (if c == 62 then Some (second (λ d. (d == 61) || (d == 61)) cs) else None))

abbrev pub kinded : TokenKind → Option (List ℕ) → Option (TokenKind × List ℕ)
kinded k = option_map (λ rest. (k, rest))

-- the longest token at the front, with what follows it
abbrev pub token : List ℕ → Option (TokenKind × List ℕ)
token cs = option_or (kinded kind.Date (date cs)) (option_or (kinded kind.Number (number cs)) (option_or (kinded kind.Word (word cs)) (option_or (kinded kind.Text (text cs)) (kinded kind.Symbol (symbol cs)))))
