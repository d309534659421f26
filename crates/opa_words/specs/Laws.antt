-- Laws of cutting.
use Rattle.std.specs.Prelude.{◌≡◌, ℕ, List}
use Rattle.opa_words.specs.declared.kinds.Token.{Token}
use Rattle.opa_words.specs.declared.kinds.TokenKind.{TokenKind}
use Rattle.opa_words.specs.Kinds.{IsLongest}
use Rattle.opa_words.specs.Cuts.{Cuts, Stuck}

-- a line is cut in at most one way
abbrev pub OneCut : Type 0
OneCut = (total : ℕ) (cs : List ℕ) (ts us : List Token) → Cuts total cs ts → Cuts total cs us → ts ≡ us

-- a line that is cut has no place at which no token begins
abbrev pub CutOrStuck : Type 0
CutOrStuck = (total : ℕ) (cs : List ℕ) (ts : List Token) (p : ℕ) → Cuts total cs ts → Stuck total cs p → ⊥

-- at each place one token at most is the longest, and it has one kind
abbrev pub OneLongest : Type 0
OneLongest = (cs : List ℕ) (k l : TokenKind) (rest left : List ℕ) → IsLongest cs k rest → IsLongest cs l left → (k ≡ l) × (rest ≡ left)
