-- The measure of what is said is that of its tree.
use Rattle.std.specs.Prelude.{◌≡◌, true, false, List, map, Option, Some, None}
use Rattle.opa_tree.specs.declared.expr.Expr.{Expr}
use Rattle.opa_tree.specs.Trees.{depth, highest}
use Rattle.opa_sentence.specs.declared.measure.Measure.{Measure}
use Rattle.opa_sentence.specs.declared.names.Names.{Names}
use Rattle.opa_sentence.specs.declared.reading.Reading.{Reading}
use Rattle.opa_sentence.specs.Lexemes.{Lexeme}
use Rattle.opa_sentence.specs.Measures.{nodes, total, unbounded}
use Rattle.opa_sentence.specs.Grammar.{Part, Spells}

-- there is a tree where all is named, and its depth and nodes are these
abbrev pub Tells : Measure → Option Expr → Type 0
Tells m None = m.named ≡ false
Tells m (Some e) = (m.named ≡ true) × (depth e ≡ m.depth) × (nodes e ≡ m.nodes)

abbrev pub TellsTree : Reading → Type 0
TellsTree x = Tells x.measure x.tree

-- the same of trees beside one another
abbrev pub TellsAll : Measure → Option (List Expr) → Type 0
TellsAll m None = m.named ≡ false
TellsAll m (Some es) = (m.named ≡ true) × (highest (map depth es) ≡ m.depth) × (total (map nodes es) ≡ m.nodes)

-- without bounds, what a part of a line says has a tree exactly where all in it is named, and the depth and the nodes of that tree are its measure's
abbrev pub IsMeasured : Type 0
IsMeasured = (ns : Names) (p : Part) (ts : List Lexeme) (x : Reading) (rest : List Lexeme) → Spells unbounded ns p ts x rest → TellsTree x
