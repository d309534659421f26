-- What a line is read as.
use Rattle.std.specs.Prelude.{ℕ, ◌+◌, ◌*◌, List, length, Option, Some, None}
use Rattle.opa_sentence.specs.declared.names.Names.{Names}
use Rattle.opa_sentence.specs.declared.reading.Reading.{Reading}
use Rattle.opa_sentence.specs.declared.sorts.Sort.{Sort}
use Rattle.opa_sentence.specs.declared.sorts.Sort.TheVariants as sort
use Rattle.opa_sentence.specs.Lexemes.{Lexeme}
use Rattle.opa_sentence.specs.Measures.{Bounds, bounded}
use Rattle.opa_sentence.specs.Moves as moves
use Rattle.opa_sentence.specs.Table.{production, resume}

-- the front of the tokens is read as one of that sort, and the rest follows
abbrev pub Reads : Bounds → Names → Sort → List Lexeme → Reading → List Lexeme → Type 0
Reads b ns = moves.Reads (production b ns) (resume b)

-- what is read at the front of tokens as one of that sort, or none where no front is read
abbrev pub IsReadAs : Names → Sort → List Lexeme → Option (Reading × List Lexeme) → Type 0
IsReadAs ns s ts None = (r : Reading) (rest : List Lexeme) → Reads bounded ns s ts r rest → ⊥
IsReadAs ns s ts (Some x) = Reads bounded ns s ts x.0 x.1

abbrev pub rank : Sort → ℕ
rank sort.Line = 7
rank sort.Operand = 5
rank sort.Term = 3
rank (sort.Argument f n a) = 9
rank s = 1

-- how much is left to read at most
abbrev pub weight : Sort → List Lexeme → ℕ
weight s ts = 10 * length ts + rank s
