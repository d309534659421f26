-- When the text of a rule is within the limits of what is read.
use Rattle.std.specs.Prelude.{◌≡◌, ◌≤◌, ◌+◌, List, [], ◌∷◌, ◌++◌, Bool, true, ◌&&◌, if◌then◌else◌}
use Rattle.std.specs.List.{AllByRecursion}
use Rattle.opa_model.specs.declared.lists.Lists.{Lists}
use Rattle.opa_tree.specs.declared.expr.Expr.{Expr}
use Rattle.opa_tree.specs.declared.expr.Row.{Row}
use Rattle.opa_tree.specs.declared.expr.Expr.TheOpen.{Expr-F, Row-F, Const, Attr, All as AllOf, Any, Not, Op, Certain, Known, Over, Window, Rolling, Table}
use Rattle.opa_tree.specs.declared.expr.Expr.TheFolds.{fold-Expr}
use Rattle.opa_tree.specs.declared.expr.Expr.TheViews.{out-Expr}
use Rattle.opa_tree.specs.declared.rules.Inferred.{Inferred}
use Rattle.opa_tree.specs.declared.rules.Rule.{Rule}
use Rattle.opa_tree.specs.Trees.{depth}
use Rattle.opa_io.specs.declared.limits.TheConstants.{MOST_DEPTH, MOST_NODES, MOST_NESTING}
use Rattle.opa_sentence.specs.declared.names.Names.{Names}
use Rattle.opa_sentence.specs.declared.reading.Reading.{Reading}
use Rattle.opa_sentence.specs.Grammar.{LINE, Spells}
use Rattle.opa_sentence.specs.Measures.{nodes, unbounded}
use Rattle.opa_sentence.specs.Readings.{is_short}
use Rattle.opa_parse.specs.Naming.{names_in}
use Rattle.opa_parse.specs.Rules.{inferred_nodes}
use Rattle.opa_wording.specs.Told.{all_told}
use Rattle.opa_wording.specs.Laid.{tree_words, rule_lines, size}
use Rattle.opa_io.specs.declared.limits.TheConstants.{MOST_LINE}

-- ---- the trees that stand on the lines of a rule

abbrev pub group_trees_by : Expr → Expr-F Expr Row → List Expr
group_trees_by e (AllOf es) = es
group_trees_by e (Any es) = es
group_trees_by e x = e ∷ []

abbrev pub group_trees : Expr → List Expr
group_trees e = group_trees_by e (out-Expr e)

abbrev pub case_trees : List Row → List Expr
case_trees [] = []
case_trees (r ∷ rs) = r.value ∷ (group_trees r.cond ++ case_trees rs)

abbrev pub concluded_trees_by : Expr → Expr-F Expr Row → List Expr
concluded_trees_by e (Table rows last) = case_trees rows ++ last ∷ []
concluded_trees_by e x = e ∷ []

abbrev pub rule_trees : Rule → List Expr
rule_trees r = if r.by_if then group_trees r.expr else concluded_trees_by r.expr (out-Expr r.expr)

-- ---- texts

abbrev pub all_true : List Bool → Bool
all_true [] = true
all_true (b ∷ bs) = b && all_true bs

abbrev pub short_step : Expr-F Bool Bool → Bool
short_step (Const v) = is_short v
short_step (Attr a) = true
short_step (AllOf bs) = all_true bs
short_step (Any bs) = all_true bs
short_step (Not b) = b
short_step (Op k bs) = all_true bs
short_step (Certain b) = b
short_step (Known b) = b
short_step (Over q r bs) = all_true bs
short_step (Window k bs) = all_true bs
short_step (Rolling always n b) = b
short_step (Table rows last) = all_true rows && last

abbrev pub short_row : Row-F Bool Bool → Bool
short_row row = row.cond && row.value

-- no text in the tree has more bytes than a text may have
unfoldable pub has_short_texts : Expr → Bool
has_short_texts = fold-Expr Bool Bool short_step short_row

-- ---- limits

-- The tree's line nests no deeper than a line may, and has no text over its number.
abbrev pub LineFits : Lists → Names → Expr → Type 0
LineFits m ns e = (x : Reading) → Spells unbounded ns LINE (all_told (tree_words m e)) x [] → (x.measure.nesting ≤ MOST_NESTING) × (x.measure.short ≡ true)

-- The rule's tree is within the limits, where membership blocks stand before it, and each line of its text is.
pub record IsWithinLimits (m : Lists) (inferences : List Inferred) (r : Rule) : Type 0 where
  pub deep : depth r.expr ≤ MOST_DEPTH
  pub wide : inferred_nodes inferences + nodes r.expr ≤ MOST_NODES
  pub lines : AllByRecursion (LineFits m (names_in m inferences)) (rule_trees r)
  pub short : AllByRecursion (λ l. size l ≤ MOST_LINE) (rule_lines m r)
