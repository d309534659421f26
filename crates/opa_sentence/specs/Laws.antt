-- Laws of the grammar of a line.
use Rattle.std.specs.Prelude.{◌≡◌, List, []}
use Rattle.opa_sentence.specs.declared.names.Names.{Names}
use Rattle.opa_sentence.specs.declared.reading.Reading.{Reading}
use Rattle.opa_sentence.specs.declared.sorts.Sort.{Sort}
use Rattle.opa_sentence.specs.declared.sorts.Sort.TheVariants as sort
use Rattle.opa_sentence.specs.Lexemes.{Lexeme}
use Rattle.opa_sentence.specs.Measures.{Bounds}
use Rattle.opa_sentence.specs.Spelled.{Reads}
use Rattle.opa_sentence.specs.Grammar.{Part, Spells}

-- the sort that reads a part of a line
abbrev pub sort_of : Part → Sort
sort_of Part.LINE = sort.Line
sort_of Part.OPERAND = sort.Operand
sort_of Part.TERM = sort.Term
sort_of Part.FACTOR = sort.Factor

-- tokens are read as at most one thing of each sort at their front
abbrev pub OneReading : Type 0
OneReading = (b : Bounds) (ns : Names) (s : Sort) (ts : List Lexeme) (x y : Reading) (rest left : List Lexeme) → Reads b ns s ts x rest → Reads b ns s ts y left → (x ≡ y) × (rest ≡ left)

-- what the grammar spells is read
abbrev pub IsRead : Type 0
IsRead = (b : Bounds) (ns : Names) (p : Part) (ts : List Lexeme) (x : Reading) → Spells b ns p ts x [] → Reads b ns (sort_of p) ts x []

-- what is read the grammar spells
abbrev pub IsGrammatical : Type 0
IsGrammatical = (b : Bounds) (ns : Names) (p : Part) (ts : List Lexeme) (x : Reading) (rest : List Lexeme) → Reads b ns (sort_of p) ts x rest → Spells b ns p ts x rest

-- the whole of the tokens spells at most one thing
abbrev pub OneMeaning : Type 0
OneMeaning = (b : Bounds) (ns : Names) (p : Part) (ts : List Lexeme) (x y : Reading) → Spells b ns p ts x [] → Spells b ns p ts y [] → x ≡ y
