-- A text up to the first place at which no token begins.
use Rattle.std.specs.Prelude.{◌≡◌, ◌⊎◌, ◌<◌, ◌^◌, ℕ, List, length, take}
use Rattle.std.specs.List.{All}
use Rattle.std.specs.Str.{chars}
use Rattle.opa_words.specs.declared.kinds.Token.{Token}
use Rattle.opa_words.specs.Cuts.{Cuts, Stuck}
use Rattle.opa_words.specs.declared.layout.block.BlockLine.{BlockLine}

-- all of the text, if it is cut, or else what stands before the first place at which no token begins
abbrev pub Stands : List ℕ → List ℕ → Type 0
Stands text front = ((ts : List Token) × Cuts (length text) (chars text) ts × (front ≡ text)) ⊎ ((p : ℕ) × Stuck (length text) (chars text) p × (front ≡ take p text))

-- the tokens at the front of a text, and the bytes that they are of
abbrev pub IsFront : List ℕ → List ℕ → List Token → Type 0
IsFront text front ts = Cuts (length front) (chars front) ts × Stands text front

-- each line is short enough to be cut
abbrev pub AreShort : List BlockLine → Type 0
AreShort lines = All (λ l. length l.text < 2 ^ 32) lines
