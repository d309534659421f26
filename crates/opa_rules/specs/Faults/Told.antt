-- What is said of an error: its words, and where the mark is.
use Rattle.std.specs.Prelude.{◌≡◌, ℕ, Bool, true, false, ◌&&◌, List, [], ◌∷◌, ◌++◌, codes, find, length, take, unwrap_or, Option, Some, None, MatchBool}
use Rattle.std.specs.Str.{chars}
use Rattle.opa_words.specs.declared.kinds.Token.{Token}
use Rattle.opa_words.specs.declared.layout.block.Block.{Block}
use Rattle.opa_words.specs.declared.layout.block.BlockLine.{BlockLine}
use Rattle.opa_words.specs.Cuts.{Cuts, Stuck}
use Rattle.opa_words.specs.Reserved.{phrase_text}
use Rattle.opa_sentence.specs.Lexemes.{Lexeme, lexemes}
use Rattle.opa_sentence.specs.Phrases.{longest}
use Rattle.opa_tree.specs.declared.faults.RbFault.{RbFault}
use Rattle.opa_tree.specs.declared.faults.RbKind.{RbKind}
use Rattle.opa_tree.specs.declared.faults.RbKind.TheVariants as kind
use Rattle.opa_rules.specs.declared.faults.marks.Told.{Told}
use Rattle.opa_rules.specs.Faults.Blocks.{has_line, has_number, reads_phrases}
use Rattle.opa_rules.specs.Faults.Marks.{plain, marked, characters_before}
use Rattle.opa_rules.specs.Faults.Nearest.{nearest}
use Rattle.opa_rules.specs.Faults.Unknown.{unknown, inner, heads}
use Rattle.opa_rules.specs.Faults.Unread.{IsBlockTold}

abbrev pub asked : Option (List ℕ) → List ℕ
asked None = []
asked (Some p) = codes "; did you mean '" ++ (p ++ codes "'?")

-- that a phrase isn't declared, and which one may be meant
abbrev pub unknown_words : List ℕ → Option (List ℕ) → List ℕ
unknown_words found near = codes "no attribute or list is called '" ++ (found ++ (codes "'" ++ asked near))

-- of a phrase that isn't known: the words, and the mark below its first character
abbrev pub told_of : List (List ℕ) → BlockLine → ℕ → List ℕ → Told
told_of phrases l before found = marked l before (unknown_words found (nearest found phrases))

-- of a line, whose tokens from the first phrase on that isn't known are these
abbrev pub told_at : List (List ℕ) → BlockLine → List Token → Told
told_at phrases l [] = plain l.line kind.Name (Some l)
told_at phrases l (t ∷ ts) = told_of phrases l (characters_before l.text t.start) (phrase_text l.text (take (inner l.text (t ∷ ts)) (t ∷ ts)))

abbrev pub counted : Option (ℕ × ℕ) → ℕ
counted None = 0
counted (Some x) = x.1

-- how many tokens begin a line over a group of a list
abbrev pub headed : List Lexeme → ℕ
headed ts = counted (longest heads ts)

-- of a line, whose tokens are these
abbrev pub told_in : List (List ℕ) → BlockLine → List Token → Told
told_in phrases l ts = told_at phrases l (unknown phrases l.text (headed (lexemes l.text ts)) ts)

-- of a line that may have a phrase that isn't known
pub data IsNamed (phrases : List (List ℕ)) (l : BlockLine) : Told → Type 0 where
  cut : (ts : List Token) → Cuts (length l.text) (chars l.text) ts → IsNamed phrases l (told_in phrases l ts)
  uncut : (place : ℕ) → Stuck (length l.text) (chars l.text) place → IsNamed phrases l (plain l.line kind.Name (Some l))

abbrev pub is_name : RbKind → Bool
is_name kind.Name = true
is_name k = false

abbrev pub is_syntax : RbKind → Bool
is_syntax kind.Syntax = true
is_syntax k = false

-- of a block with these lines that can't be read: the first place that is found, or its line as a whole
abbrev pub IsUnread : List BlockLine → ℕ → Option BlockLine → Told → Type 0
IsUnread lines n line told = (o : Option Told) × IsBlockTold lines o × (told ≡ unwrap_or o (plain n kind.Syntax line))

-- This is said of an error of another kind, by a line with this number that reads phrases or doesn't.
abbrev pub IsTold : List (List ℕ) → Bool → ℕ → Option BlockLine → RbKind → Told → Type 0
IsTold phrases reads n None k told = told ≡ plain n k None
IsTold phrases reads n (Some l) k told = MatchBool (reads && is_name k) (IsNamed phrases l told) (told ≡ plain n k (Some l))

-- of an error in a block with these lines
abbrev pub IsToldOf : List (List ℕ) → List BlockLine → Option BlockLine → RbFault → Told → Type 0
IsToldOf phrases lines line fault told = MatchBool (is_syntax fault.kind) (IsUnread lines fault.line line told) (IsTold phrases (reads_phrases fault.line lines) fault.line line fault.kind told)

-- the same of an error in a block, if one has its line
abbrev pub IsToldBy : List (List ℕ) → Option Block → RbFault → Told → Type 0
IsToldBy phrases None fault told = told ≡ plain fault.line fault.kind None
IsToldBy phrases (Some b) fault told = IsToldOf phrases b.lines (find (has_number fault.line) b.lines) fault told

-- This is said of an error of blocks where these phrases are known.
abbrev pub IsToldIn : List (List ℕ) → List Block → RbFault → Told → Type 0
IsToldIn phrases blocks fault told = IsToldBy phrases (find (has_line fault.file fault.line) blocks) fault told
