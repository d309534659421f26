-- Laws of written lines.
use Rattle.std.specs.Prelude.{◌≡◌, ◌*◌, Bool, true, false, List, [], ◌++◌}
use Rattle.std.specs.Str.{IsUtf8}
use Rattle.opa_words.specs.Pieces.{IsCutInto}
use Rattle.opa_words.specs.Written.{pieces_of}
use Rattle.opa_model.specs.declared.lists.Lists.{Lists}
use Rattle.opa_tree.specs.declared.expr.Expr.{Expr}
use Rattle.opa_tree.specs.Trees.{depth}
use Rattle.opa_sentence.specs.declared.names.Names.{Names}
use Rattle.opa_sentence.specs.Lexemes.{Lexeme}
use Rattle.opa_sentence.specs.Grammar.{FACTOR, LINE}
use Rattle.opa_wording.specs.Wordings.{wording}
use Rattle.opa_wording.specs.Grammatical.{IsGrammatical}
use Rattle.opa_wording.specs.Told.{all_told, ends, SpellsTree, PhrasesAreRead, PhrasesAreWritten, AreTexts, OthersAreTexts}
use Rattle.opa_tree.specs.declared.rules.Inferred.{Inferred}
use Rattle.opa_parse.specs.Naming.{names_in}
use Rattle.opa_parse.specs.Phrasing.{IsReadable}
use Rattle.opa_wording.specs.Lines.{line_text}

-- Where declared phrases are read, the line that a tree is written as spells exactly that tree, nested at most twice as deep as the tree.
abbrev pub LinesSpellTrees : Type 0
LinesSpellTrees = (m : Lists) (ns : Names) → PhrasesAreRead m ns → (e : Expr) → IsGrammatical m e → SpellsTree ns LINE (all_told ((wording m e).as_line false)) e [] (2 * depth e)

-- and as a factor, wherever it ends
abbrev pub FactorsSpellTrees : Type 0
FactorsSpellTrees = (m : Lists) (ns : Names) → PhrasesAreRead m ns → (e : Expr) → IsGrammatical m e → (s : Bool) (rest : List Lexeme) → ends rest ≡ true → SpellsTree ns FACTOR (all_told ((wording m e).as_factor s) ++ rest) e rest (2 * depth e)

-- The text of a line is cut into the tokens that it is written as.
abbrev pub LinesAreCut : Type 0
LinesAreCut = (m : Lists) → PhrasesAreWritten m → (e : Expr) → IsGrammatical m e → IsUtf8 (line_text m e) × IsCutInto (line_text m e) (pieces_of ((wording m e).as_line false))

-- The phrases of a model that rules can read are written as tokens.
abbrev pub ReadableIsWritten : Type 0
ReadableIsWritten = (m : Lists) (inferences : List Inferred) → IsReadable m inferences → AreTexts m → PhrasesAreWritten m

-- The phrases of a model that rules can read are read as what they are declared for.
abbrev pub ReadableIsRead : Type 0
ReadableIsRead = (m : Lists) (inferences : List Inferred) → IsReadable m inferences → AreTexts m → OthersAreTexts m inferences → PhrasesAreRead m (names_in m inferences)
