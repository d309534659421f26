-- What the texts of lines and rules read back as.
use Rattle.std.specs.Prelude.{◌≡◌, ◌≤◌, ◌*◌, ◌⊎◌, ℕ, Bool, true, false, List, [], ◌∷◌, length, Some, All}
use Rattle.std.specs.List.{AllByRecursion}
use Rattle.std.specs.Str.{IsUtf8, chars}
use Rattle.opa_model.specs.declared.lists.Lists.{Lists}
use Rattle.opa_model.specs.Models.{HasRelation}
use Rattle.opa_tree.specs.declared.expr.Expr.{Expr}
use Rattle.opa_tree.specs.declared.expr.Expr.TheVariants as expr
use Rattle.opa_tree.specs.declared.faults.RbFault.{RbFault}
use Rattle.opa_tree.specs.declared.rules.Inferred.{Inferred}
use Rattle.opa_tree.specs.declared.rules.Rule.{Rule}
use Rattle.opa_tree.specs.Trees.{depth}
use Rattle.opa_words.specs.declared.kinds.Token.{Token}
use Rattle.opa_words.specs.Cuts.{Cuts}
use Rattle.opa_words.specs.Pieces.{Piece}
use Rattle.opa_words.specs.Written.{Written, AreWritten, joined, text_of}
use Rattle.opa_words.specs.declared.layout.block.Block.{Block}
use Rattle.opa_words.specs.Layout.Indents.{is_blank}
use Rattle.opa_words.specs.Layout.Blocks.{AreBlocks, block_lines, lines_of}
use Rattle.opa_words.specs.Layout.Faults.{layout_faults}
use Rattle.opa_sentence.specs.declared.names.Names.{Names}
use Rattle.opa_sentence.specs.declared.reading.Reading.{Reading}
use Rattle.opa_sentence.specs.Grammar.{LINE, Spells}
use Rattle.opa_sentence.specs.Lexemes.{lexemes}
use Rattle.opa_sentence.specs.Measures.{unbounded}
use Rattle.opa_parse.specs.declared.group.Said.{Said}
use Rattle.opa_parse.specs.Blocks.{SpellsRule, statement}
use Rattle.opa_parse.specs.Memberships.{AreInferences}
use Rattle.opa_parse.specs.Naming.{names_in}
use Rattle.opa_parse.specs.Phrasing.{IsReadable}
use Rattle.opa_parse.specs.Rules.{AreRules, AreRefused}
use Rattle.opa_parse.specs.declared.tables.whole.TableFile.{TableFile}
use Rattle.opa_parse.specs.Tables.Whole.{AreAllRules}
use Rattle.opa_wording.specs.Given.{IsRule}
use Rattle.opa_wording.specs.Grammatical.{IsGrammatical}
use Rattle.opa_wording.specs.Laid.{Laid, tree_words, rule_lines, block_from}
use Rattle.opa_wording.specs.Limits.{IsWithinLimits, LineFits, has_short_texts, rule_trees}
use Rattle.opa_wording.specs.Lines.{line_text}
use Rattle.opa_wording.specs.Rules.{rule_text}
use Rattle.opa_wording.specs.Told.{all_told, SpellsTree, AreTexts, OthersAreTexts}

-- Rules can read the model, and its phrases are texts.
pub record IsLegible (m : Lists) (inferences : List Inferred) : Type 0 where
  pub readable : IsReadable m inferences
  pub texts : AreTexts m
  pub others : OthersAreTexts m inferences

-- ---- lines

-- The text of the tree's line is cut into tokens that spell the tree, nested at most twice as deep as it is, and however
-- it is cut and spelled, it says that tree.
pub record LineReadsBack (m : Lists) (ns : Names) (e : Expr) : Type 0 where
  pub utf8 : IsUtf8 (line_text m e)
  pub tokens : List Token
  pub cut : Cuts (length (line_text m e)) (chars (line_text m e)) tokens
  pub spells : SpellsTree ns LINE (lexemes (line_text m e) tokens) e [] (2 * depth e)
  pub only : (ts : List Token) (x : Reading) → Cuts (length (line_text m e)) (chars (line_text m e)) ts → Spells unbounded ns LINE (lexemes (line_text m e) ts) x [] → x.tree ≡ Some e

abbrev pub LinesReadBack : Type 0
LinesReadBack = (m : Lists) (inferences : List Inferred) → IsLegible m inferences → (e : Expr) → IsGrammatical m e → LineReadsBack m (names_in m inferences) e

-- ---- rules

-- The text of a rule is laid out as its lines, each at its level.
abbrev pub RulesAreLaidOut : Type 0
RulesAreLaidOut = (m : Lists) (inferences : List Inferred) → IsLegible m inferences → (r : Rule) → IsRule m r → block_lines (rule_text m r) ≡ block_from 1 (rule_lines m r)

-- The lines of a rule spell a rule for its attribute that says its tree.
pub record SpellsBack (m : Lists) (inferences : List Inferred) (r : Rule) : Type 0 where
  pub said : Said
  pub spelled : SpellsRule m (names_in m inferences) (block_lines (rule_text m r)) (statement (Some r.attr) r.by_if said)
  pub tree_is : said.reading.tree ≡ Some r.expr

abbrev pub RulesAreSpelled : Type 0
RulesAreSpelled = (m : Lists) (inferences : List Inferred) → IsLegible m inferences → (r : Rule) → IsRule m r → IsWithinLimits m inferences r → SpellsBack m inferences r

-- the rule, as it is read from the first line of this file
abbrev pub placed : ℕ → Rule → Rule
placed file r = record r { file = file; line = 1 }

-- The text is laid out without fault, and wherever its blocks stand, they are read as this rule alone.
pub record ReadsAs (m : Lists) (inferences : List Inferred) (r : Rule) (text : List ℕ) : Type 0 where
  pub sound : layout_faults text ≡ []
  pub rules : (file : ℕ) (blocks : List Block) → AreBlocks file blocks → lines_of blocks ≡ block_lines text → (rules : List Rule) → AreRules m inferences blocks rules → rules ≡ placed file r ∷ []
  pub accepted : (file : ℕ) (blocks : List Block) → AreBlocks file blocks → lines_of blocks ≡ block_lines text → (fault : RbFault) → AreRefused m inferences blocks fault → ⊥

-- The text reads back as the rule, where the rule is one that the grammar gives, and its text is within the limits.
abbrev pub ReadsBack : Lists → Rule → List ℕ → Type 0
ReadsBack m r text = (inferences : List Inferred) → IsLegible m inferences → IsRule m r → IsWithinLimits m inferences r → ReadsAs m inferences r text

abbrev pub RulesReadBack : Type 0
RulesReadBack = (m : Lists) (r : Rule) → ReadsBack m r (rule_text m r)

-- A rule of depth 32 at most without long texts has lines within the limits.
abbrev pub SmallRulesFit : Type 0
SmallRulesFit = (m : Lists) (inferences : List Inferred) → IsLegible m inferences → (r : Rule) → IsRule m r → depth r.expr ≤ 32 → has_short_texts r.expr ≡ true → AllByRecursion (LineFits m (names_in m inferences)) (rule_trees r)

-- ---- what is read

-- the trees of inferred relations are ones that the grammar gives, over declared relations
abbrev pub AreMembersGiven : Lists → List Inferred → Type 0
AreMembersGiven m inferences = All (λ i. IsGrammatical m i.expr × HasRelation m i.every) inferences

-- the lines of blocks are texts
abbrev pub AreTextual : List Block → Type 0
AreTextual blocks = All (λ b. All (λ l. IsUtf8 l.text) b.lines) blocks

-- Each rule that is read is one that the grammar gives.
abbrev pub RulesAreGiven : Type 0
RulesAreGiven = (m : Lists) (inferences : List Inferred) → AreMembersGiven m inferences → (blocks : List Block) → AreTextual blocks → (rules : List Rule) → AreRules m inferences blocks rules → All (IsRule m) rules

-- a table without cases, which no block spells: a tree that the grammar gives stands alone in it
abbrev pub IsBare : Lists → Expr → Type 0
IsBare m e = (last : Expr) × IsGrammatical m last × (e ≡ expr.Table [] last)

-- So is each rule that is read of blocks and tables, but for that of a table without cases.
abbrev pub AllRulesAreGiven : Type 0
AllRulesAreGiven = (m : Lists) (inferences : List Inferred) → AreMembersGiven m inferences → (blocks : List Block) → AreTextual blocks
    → (tables : List TableFile) (rules : List Rule) → AreAllRules m inferences blocks tables rules → All (λ r. IsBare m r.expr ⊎ IsRule m r) rules

-- and so is each inferred relation
abbrev pub InferencesAreGiven : Type 0
InferencesAreGiven = (m : Lists) (blocks : List Block) → AreTextual blocks → (inferences : List Inferred) → AreInferences m blocks inferences → AreMembersGiven m inferences

-- ---- the shape of the text

-- the last byte is a blank
abbrev pub ends_blank : List ℕ → Bool
ends_blank [] = false
ends_blank (b ∷ []) = is_blank b
ends_blank (b ∷ c ∷ bs) = ends_blank (c ∷ bs)

-- A line of a rule stands at level 2 at most. It is written as tokens, the first at its left and each later one after one
-- blank or none, and doesn't end with a blank.
pub record IsTight (l : Laid) : Type 0 where
  pub low : l.level ≤ 2
  pub first : Piece
  pub later : List Written
  pub words_are : l.words ≡ joined first ∷ later
  pub written : AreWritten l.words
  pub ends : ends_blank (text_of l.words) ≡ false

abbrev pub RulesAreTight : Type 0
RulesAreTight = (m : Lists) (inferences : List Inferred) → IsLegible m inferences → (r : Rule) → IsRule m r → AllByRecursion IsTight (rule_lines m r)

-- what the tree's line spells nests at most so deep
abbrev pub NestsAtMost : Lists → Names → ℕ → Expr → Type 0
NestsAtMost m ns n e = (x : Reading) → Spells unbounded ns LINE (all_told (tree_words m e)) x [] → x.measure.nesting ≤ n

-- No line of a rule nests deeper than twice the depth of its tree.
abbrev pub RulesNestAtMost : Type 0
RulesNestAtMost = (m : Lists) (inferences : List Inferred) → IsLegible m inferences → (r : Rule) → IsRule m r → AllByRecursion (NestsAtMost m (names_in m inferences) (2 * depth r.expr)) (rule_trees r)
