-- What tokens spell as a whole.
use Rattle.std.specs.Prelude.{◌≡◌, List, [], Option, Some, None}
use Rattle.opa_sentence.specs.declared.names.Names.{Names}
use Rattle.opa_sentence.specs.declared.reading.Reading.{Reading}
use Rattle.opa_sentence.specs.Lexemes.{Lexeme}
use Rattle.opa_sentence.specs.Measures.{unbounded}
use Rattle.opa_sentence.specs.Bounding.{bound}
use Rattle.opa_sentence.specs.Grammar.{Part, Spells}

-- what all of the tokens say as this part of a line, within bounds, or none where they spell none
abbrev pub IsSpelling : Names → Part → List Lexeme → Option Reading → Type 0
IsSpelling ns p ts None = (x : Reading) → Spells unbounded ns p ts x [] → ⊥
IsSpelling ns p ts (Some r) = (x : Reading) × Spells unbounded ns p ts x [] × (r ≡ bound x)
