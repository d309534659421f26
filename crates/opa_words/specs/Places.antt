-- Where the tokens stand in the bytes of their text.
use Rattle.std.specs.Prelude.{◌≡◌, ◌≤◌, ◌<◌, ℕ, List, [], ◌∷◌, length, drop, true}
use Rattle.std.specs.List.{list_all, slice_range}
use Rattle.std.specs.Str.{IsCharBoundary, chars}
use Rattle.opa_words.specs.declared.kinds.Token.{Token}
use Rattle.opa_words.specs.declared.fault.WordFault.{WordFault}
use Rattle.opa_words.specs.declared.fault.WordFault.TheVariants as fault
use Rattle.opa_words.specs.Characters.{is_blank}
use Rattle.opa_words.specs.Kinds.{IsToken}

-- the bytes of a token
abbrev pub token_text : List ℕ → Token → List ℕ
token_text bytes t = slice_range bytes t.start t.end

-- The text may be cut where the token begins and where it ends.
pub record IsWithin (bytes : List ℕ) (t : Token) : Type 0 where
  pub order : t.start ≤ t.end
  pub ends : t.end ≤ length bytes
  pub from : IsCharBoundary bytes t.start
  pub to : IsCharBoundary bytes t.end

-- the token is what its kind says
abbrev pub IsOfKind : List ℕ → Token → Type 0
IsOfKind bytes t = IsToken t.kind (chars (token_text bytes t))

abbrev pub AreBlank : List ℕ → Type 0
AreBlank bytes = list_all is_blank bytes ≡ true

-- From a place on blanks, a token, blanks, a token and so on spell the bytes.
abbrev pub AreApart : List ℕ → ℕ → List Token → Type 0
AreApart bytes at [] = AreBlank (drop at bytes)
AreApart bytes at (t ∷ ts) = (at ≤ t.start) × AreBlank (slice_range bytes at t.start) × AreApart bytes t.end ts

-- the place of a fault lies in the text, which may be cut there
abbrev pub IsAtCharacter : List ℕ → WordFault → Type 0
IsAtCharacter bytes (fault.Place p) = (p < length bytes) × IsCharBoundary bytes p
IsAtCharacter bytes fault.NoMemory = Unit {0}
