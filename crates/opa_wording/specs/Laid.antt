-- The lines that a rule is written as: their levels, and what stands on them token by token.
use Rattle.std.specs.Prelude.{ℕ, zero, suc, ◌+◌, ◌*◌, List, [], ◌∷◌, ◌++◌, true, false, length, codes, if◌then◌else◌}
use Rattle.opa_model.specs.declared.ids.AttrId.{AttrId}
use Rattle.opa_model.specs.declared.lists.Lists.{Lists}
use Rattle.opa_model.specs.Lookups.{attribute_at}
use Rattle.opa_tree.specs.declared.expr.Expr.{Expr}
use Rattle.opa_tree.specs.declared.expr.Row.{Row}
use Rattle.opa_tree.specs.declared.expr.Expr.TheOpen.{Expr-F, All, Any, Table}
use Rattle.opa_tree.specs.declared.expr.Expr.TheViews.{out-Expr}
use Rattle.opa_tree.specs.declared.rules.Rule.{Rule}
use Rattle.opa_words.specs.declared.layout.block.BlockLine.{BlockLine}
use Rattle.opa_words.specs.Pieces.{word, symbol}
use Rattle.opa_words.specs.Written.{Written, spaced, text_of}
use Rattle.opa_wording.specs.Wordings.{wording, phrase, phrase_of_attribute}

pub record Laid : Type 0 where
  pub level : ℕ
  pub words : List Written

abbrev pub at : ℕ → List Written → Laid
at k ws = record { level = k; words = ws }

-- with a word at the end
abbrev pub ended : List Written → List ℕ → List Written
ended ws w = ws ++ spaced (word w) ∷ []

-- with an equals sign at the end
abbrev pub equated : List Written → List Written
equated ws = ws ++ spaced (symbol (codes "=")) ∷ []

module _ (m : Lists) where
  -- a tree on a line of its own
  abbrev pub tree_words : Expr → List Written
  tree_words e = (wording m e).as_line false

  -- each item but the last carries the connector
  abbrev pub item_words : List ℕ → Expr → List Expr → List Written
  item_words joint e [] = tree_words e
  item_words joint e (f ∷ es) = ended (tree_words e) joint

  abbrev pub item_lines : ℕ → List ℕ → List Expr → List Laid
  item_lines k joint [] = []
  item_lines k joint (e ∷ es) = at k (item_words joint e es) ∷ item_lines k joint es

  abbrev pub group_lines_by : ℕ → Expr → Expr-F Expr Row → List Laid
  group_lines_by k e (All es) = item_lines k (codes "and") es
  group_lines_by k e (Any es) = item_lines k (codes "or") es
  group_lines_by k e x = at k (tree_words e) ∷ []

  -- the parts of an `All` or `Any` are items, and another tree is one
  abbrev pub group_lines : ℕ → Expr → List Laid
  group_lines k e = group_lines_by k e (out-Expr e)

  abbrev pub case_lines : List Row → List Laid
  case_lines [] = []
  case_lines (r ∷ rs) = at 1 (ended (tree_words r.value) (codes "if")) ∷ (group_lines 2 r.cond ++ case_lines rs)

  abbrev pub phrase_words : AttrId → List Written
  phrase_words a = phrase false (phrase_of_attribute (attribute_at m a))

  -- conditions below a phrase
  abbrev pub conditioned_lines : AttrId → Expr → List Laid
  conditioned_lines a e = at 0 (ended (phrase_words a) (codes "if")) ∷ group_lines 1 e

  -- a table below a phrase, or another tree on its line
  abbrev pub concluded_lines_by : AttrId → Expr → Expr-F Expr Row → List Laid
  concluded_lines_by a e (Table rows last) = at 0 (equated (phrase_words a)) ∷ (case_lines rows ++ at 1 (ended (tree_words last) (codes "otherwise")) ∷ [])
  concluded_lines_by a e x = at 0 (equated (phrase_words a) ++ (wording m e).as_line true) ∷ []

  abbrev pub concluded_lines : AttrId → Expr → List Laid
  concluded_lines a e = concluded_lines_by a e (out-Expr e)

  abbrev pub rule_lines : Rule → List Laid
  rule_lines r = if r.by_if then conditioned_lines r.attr r.expr else concluded_lines r.attr r.expr

-- ---- lines as a block has them

abbrev pub block_line : ℕ → Laid → BlockLine
block_line n l = record { level = l.level; line = n; text = text_of l.words }

-- counted from this number
abbrev pub block_from : ℕ → List Laid → List BlockLine
block_from n [] = []
block_from n (l ∷ ls) = block_line n l ∷ block_from (n + 1) ls

-- how many bytes a line has
abbrev pub size : Laid → ℕ
size l = 2 * l.level + length (text_of l.words)

-- two blanks a level
abbrev pub indent : ℕ → List ℕ
indent zero = []
indent (suc k) = 32 ∷ 32 ∷ indent k

abbrev pub line_bytes : Laid → List ℕ
line_bytes l = indent l.level ++ text_of l.words

-- lines, each with a line feed
abbrev pub laid_text : List Laid → List ℕ
laid_text [] = []
laid_text (l ∷ ls) = line_bytes l ++ 10 ∷ laid_text ls
