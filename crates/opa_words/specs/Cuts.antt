-- How a line is cut into tokens.
use Rattle.std.specs.Prelude.{◌≡◌, ℕ, ◌-◌, List, [], ◌∷◌, true, false}
use Rattle.opa_words.specs.declared.kinds.TokenKind.{TokenKind}
use Rattle.opa_words.specs.declared.kinds.Token.{Token}
use Rattle.opa_words.specs.declared.fault.WordFault.{WordFault}
use Rattle.opa_words.specs.declared.fault.WordFault.TheVariants as fault
use Rattle.opa_words.specs.Characters.{width, is_blank}
use Rattle.opa_words.specs.Kinds.{IsLongest, BeginsNone}

-- The tokens of what is left of a line with so many bytes: the longest token at each place that isn't blank.
pub data Cuts (total : ℕ) : List ℕ → List Token → Type 0 where
  ends : Cuts total [] []
  blank : {c : ℕ} {cs : List ℕ} {ts : List Token} → is_blank c ≡ true → Cuts total cs ts → Cuts total (c ∷ cs) ts
  cut : {c : ℕ} {cs : List ℕ} {ts : List Token} (k : TokenKind) (rest : List ℕ) → is_blank c ≡ false → IsLongest (c ∷ cs) k rest → Cuts total rest ts
      → Cuts total (c ∷ cs) (record { kind = k; start = total - width (c ∷ cs); end = total - width rest } ∷ ts)

-- the first place at which no token begins
pub data Stuck (total : ℕ) : List ℕ → ℕ → Type 0 where
  here : {c : ℕ} {cs : List ℕ} → is_blank c ≡ false → BeginsNone (c ∷ cs) → Stuck total (c ∷ cs) (total - width (c ∷ cs))
  blank : {c : ℕ} {cs : List ℕ} {p : ℕ} → is_blank c ≡ true → Stuck total cs p → Stuck total (c ∷ cs) p
  cut : {c : ℕ} {cs : List ℕ} {p : ℕ} (k : TokenKind) (rest : List ℕ) → is_blank c ≡ false → IsLongest (c ∷ cs) k rest → Stuck total rest p → Stuck total (c ∷ cs) p

-- what a fault says
abbrev pub IsCause : ℕ → List ℕ → WordFault → Type 0
IsCause total cs (fault.Place p) = Stuck total cs p
IsCause total cs fault.NoMemory = Unit {0}

abbrev pub Full : WordFault
Full = fault.NoMemory
