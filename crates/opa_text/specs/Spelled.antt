-- What tokens spell: a value, a line, names. In each, the front of the tokens spells it, and the rest follows.
use Rattle.std.specs.Prelude.{◌≡◌, ◌⊎◌, ◌<◌, ℕ, ℤ, neg_ℤ, List, [], ◌∷◌, Ok, codes}
use Rattle.opa_value.specs.declared.value.Value.{Value}
use Rattle.opa_value.specs.declared.value.Value.TheVariants as value
use Rattle.opa_value.specs.NumberText.{read_number}
use Rattle.opa_date.specs.declared.TheConstants.{DAYS}
use Rattle.opa_date.specs.Texts.{read_day}
use Rattle.opa_line.specs.Lines.{at}
use Rattle.opa_words.specs.Pieces.{Piece, IsCutInto, word, number, date, symbol, text}
use Rattle.opa_text.specs.declared.fault.ReadFault.{ReadFault}
use Rattle.opa_text.specs.declared.fault.ReadFault.TheVariants as fault
use Rattle.opa_text.specs.Texts.{bool_text}

-- a number, or a minus and a number
abbrev pub SpellsNumber : ℤ → List Piece → List Piece → Type 0
SpellsNumber n ps rest = ((t : List ℕ) × (ps ≡ number t ∷ rest) × (read_number t ≡ Ok n)) ⊎ ((t : List ℕ) × (ps ≡ symbol (codes "-") ∷ number t ∷ rest) × (read_number t ≡ Ok (neg_ℤ n)))

abbrev pub SpellsDay : ℕ → List Piece → List Piece → Type 0
SpellsDay d ps rest = (t : List ℕ) × (ps ≡ date t ∷ rest) × (read_day t ≡ Ok d)

abbrev pub SpellsValue : Value → List Piece → List Piece → Type 0
SpellsValue value.Unknown ps rest = ps ≡ word (codes "unknown") ∷ rest
SpellsValue value.Uncertain ps rest = ps ≡ word (codes "uncertain") ∷ rest
SpellsValue (value.Bool b) ps rest = ps ≡ word (bool_text b) ∷ rest
SpellsValue (value.Num n) ps rest = SpellsNumber n ps rest
SpellsValue (value.Words t) ps rest = ps ≡ text t ∷ rest
SpellsValue (value.Day d) ps rest = SpellsDay d ps rest

-- `; from DATE VALUE`
abbrev pub SpellsChange : ℕ × Value → List Piece → List Piece → Type 0
SpellsChange p ps rest = (later : List Piece) × (last : List Piece) × (ps ≡ symbol (codes ";") ∷ word (codes "from") ∷ later) × SpellsDay p.0 later last × SpellsValue p.1 last rest

-- a change after this day
abbrev pub SpellsLater : ℕ → ℕ × Value → List Piece → List Piece → Type 0
SpellsLater day p ps rest = SpellsChange p ps rest × (day < p.0)

-- changes on rising days after this one, and nothing else
abbrev pub SpellsChanges : ℕ → List (ℕ × Value) → List Piece → Type 0
SpellsChanges d [] ps = ps ≡ []
SpellsChanges d (p ∷ pairs) ps = (rest : List Piece) × SpellsLater d p ps rest × SpellsChanges p.0 pairs rest

-- a value from day 0 on, and changes
abbrev pub SpellsPairs : List (ℕ × Value) → List Piece → Type 0
SpellsPairs [] ps = ⊥
SpellsPairs (p ∷ pairs) ps = (rest : List Piece) × (p.0 ≡ 0) × SpellsValue p.1 ps rest × SpellsChanges 0 pairs rest

-- the line has at every day the value that these tokens say
abbrev pub SpellsLine : List (ℕ × Value) → List Piece → Type 0
SpellsLine l ps = (pairs : List (ℕ × Value)) × SpellsPairs pairs ps × ((d : ℕ) → d < DAYS → at l d ≡ at pairs d)

-- `,` and a name
abbrev pub SpellsNext : List ℕ → List Piece → List Piece → Type 0
SpellsNext n ps rest = ps ≡ symbol (codes ",") ∷ text n ∷ rest

-- so often, and nothing else
abbrev pub SpellsMore : List (List ℕ) → List Piece → Type 0
SpellsMore [] ps = ps ≡ []
SpellsMore (n ∷ ns) ps = (rest : List Piece) × SpellsNext n ps rest × SpellsMore ns rest

-- `none`, or names between quotes
abbrev pub SpellsNames : List (List ℕ) → List Piece → Type 0
SpellsNames [] ps = ps ≡ word (codes "none") ∷ []
SpellsNames (n ∷ ns) ps = (rest : List Piece) × (ps ≡ text n ∷ rest) × SpellsMore ns rest

-- ---- whole texts

-- the text says this line
abbrev pub IsLineOf : List ℕ → List (ℕ × Value) → Type 0
IsLineOf bytes l = (ps : List Piece) × IsCutInto bytes ps × SpellsLine l ps

-- the text says these pairs
abbrev pub HasPairs : List ℕ → List (ℕ × Value) → Type 0
HasPairs bytes pairs = (ps : List Piece) × IsCutInto bytes ps × SpellsPairs pairs ps

-- the text says these names
abbrev pub IsNamesOf : List ℕ → List (List ℕ) → Type 0
IsNamesOf bytes ns = (ps : List Piece) × IsCutInto bytes ps × SpellsNames ns ps

-- what a fault says: the text says no line, or no names
abbrev pub SaysNoLine : List ℕ → ReadFault → Type 0
SaysNoLine bytes fault.Value = (l : List (ℕ × Value)) → IsLineOf bytes l → ⊥
SaysNoLine bytes fault.NoMemory = Unit {0}

abbrev pub SaysNoNames : List ℕ → ReadFault → Type 0
SaysNoNames bytes fault.Value = (ns : List (List ℕ)) → IsNamesOf bytes ns → ⊥
SaysNoNames bytes fault.NoMemory = Unit {0}

-- the text isn't cut into tokens
abbrev pub IsNotCut : List ℕ → ReadFault → Type 0
IsNotCut bytes fault.Value = (ps : List Piece) → IsCutInto bytes ps → ⊥
IsNotCut bytes fault.NoMemory = Unit {0}
