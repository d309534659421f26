-- What the tokens of each kind are.
use Rattle.std.specs.Prelude.{◌≡◌, ◌≤◌, ◌⊎◌, ℕ, List, [], ◌∷◌, ◌++◌, length, Bool, true, false, ◌&&◌, ◌||◌, ◌==◌, if◌then◌else◌, codes}
use Rattle.std.specs.List.{list_all, list_any}
use Rattle.opa_words.specs.declared.kinds.TokenKind.{TokenKind}
use Rattle.opa_words.specs.declared.kinds.TokenKind.TheVariants as kind
use Rattle.opa_words.specs.Characters.{begins_word, continues_word, is_digit, is_control}

-- four digits, a hyphen, two digits, a hyphen, two digits
abbrev pub is_date : List ℕ → Bool
is_date (a ∷ b ∷ c ∷ d ∷ e ∷ f ∷ g ∷ h ∷ i ∷ j ∷ []) = list_all is_digit (a ∷ b ∷ c ∷ d ∷ f ∷ g ∷ i ∷ j ∷ []) && (e == 45) && (h == 45)
is_date cs = false

-- digits, one at least
abbrev pub AreDigits : List ℕ → Type 0
AreDigits cs = (list_all is_digit cs ≡ true) × (1 ≤ length cs)

-- digits, or digits, a point and at most four digits
abbrev pub IsNumber : List ℕ → Type 0
IsNumber cs = AreDigits cs ⊎ ((whole : List ℕ) × (part : List ℕ) × AreDigits whole × AreDigits part × (length part ≤ 4) × (cs ≡ whole ++ 46 ∷ part))

abbrev pub is_word : List ℕ → Bool
is_word [] = false
is_word (c ∷ cs) = begins_word c && list_all continues_word cs

-- each quote is written twice
abbrev pub doubled : List ℕ → List ℕ
doubled [] = []
doubled (c ∷ cs) = if c == 34 then 34 ∷ 34 ∷ doubled cs else c ∷ doubled cs

-- a text between quotes
abbrev pub quoted : List ℕ → List ℕ
quoted cs = 34 ∷ (doubled cs ++ 34 ∷ [])

-- a text without control characters between quotes
abbrev pub IsText : List ℕ → Type 0
IsText cs = (inner : List ℕ) × (list_any is_control inner ≡ false) × (cs ≡ quoted inner)

-- a symbol of one character that begins no longer one
abbrev pub is_single : ℕ → Bool
is_single c = list_any (λ d. c == d) (codes "()[],:;/+-*=")

-- `<` or `>` too, and `<=`, `<>` or `>=`
abbrev pub is_symbol : List ℕ → Bool
is_symbol (c ∷ []) = is_single c || (c == 60) || (c == 62)
is_symbol (c ∷ d ∷ []) = ((c == 60) && ((d == 61) || (d == 62))) || ((c == 62) && (d == 61))
is_symbol cs = false

-- the characters are a token of the kind
abbrev pub IsToken : TokenKind → List ℕ → Type 0
IsToken kind.Word cs = is_word cs ≡ true
IsToken kind.Number cs = IsNumber cs
IsToken kind.Date cs = is_date cs ≡ true
IsToken kind.Text cs = IsText cs
IsToken kind.Symbol cs = is_symbol cs ≡ true

-- The longest token that begins the characters: its kind, and what follows it.
pub record IsLongest (cs : List ℕ) (k : TokenKind) (rest : List ℕ) : Type 0 where
  pub front : List ℕ
  pub split : front ++ rest ≡ cs
  pub token : IsToken k front
  pub longest : (l : TokenKind) (f r : List ℕ) → f ++ r ≡ cs → IsToken l f → length f ≤ length front

-- no token begins the characters
abbrev pub BeginsNone : List ℕ → Type 0
BeginsNone cs = (l : TokenKind) (f r : List ℕ) → f ++ r ≡ cs → IsToken l f → ⊥
