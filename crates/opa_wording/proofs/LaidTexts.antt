-- The text of a rule is that of its lines.
use Rattle.std.proofs.Common.{◌≡◌, ℕ, List, [], ◌∷◌, ◌++◌, map, Bool, true, false, refl, sym, ap, ap₂, ◌∙◌, append_assoc, append-nil}
use Rattle.std.specs.Prelude.{codes, if◌then◌else◌}
use Rattle.opa_model.specs.declared.ids.AttrId.{AttrId}
use Rattle.opa_model.specs.declared.lists.Lists.{Lists}
use Rattle.opa_model.specs.Lookups.{attribute_at}
use Rattle.opa_tree.specs.declared.expr.Expr.{Expr}
use Rattle.opa_tree.specs.declared.expr.Row.{Row}
use Rattle.opa_tree.specs.declared.expr.Expr.TheOpen.{Expr-F, Const, Attr, All, Any, Not, Op, Certain, Known, Over, Window, Rolling, Table}
use Rattle.opa_tree.specs.declared.expr.Expr.TheViews.{out-Expr}
use Rattle.opa_tree.specs.declared.expr.Expr.TheVariants as V
use Rattle.opa_tree.specs.declared.rules.Rule.{Rule}
use Rattle.opa_words.specs.Pieces.{word, symbol}
use Rattle.opa_words.specs.Written.{Written, spaced, text_of}
use Rattle.opa_wording.specs.Lines.{line_text}
use Rattle.opa_wording.specs.Rules.{written, items, group_by, group_text, cases, concluded_by, concluded, conditioned, rule_text}
use Rattle.opa_wording.specs.Wordings.{wording, phrase_of_attribute}
use Rattle.opa_wording.specs.Laid.{Laid, at, ended, equated, tree_words, item_lines, group_lines_by, group_lines, case_lines, phrase_words, conditioned_lines, concluded_lines_by, concluded_lines, rule_lines, indent, line_bytes, laid_text}
use Rattle.opa_wording.specs.Grammatical.{IsGrammatical}
use Rattle.opa_wording.specs.Given.{IsTree, IsRule}
use Rattle.opa_wording.proofs.TextLaws.{text_append, phrase_says}
use Rattle.opa_wording.proofs.RuleTexts.{opened, concluded-Table}
use Rattle.opa_wording.proofs.Edges.{PhrasesEnd, tree_edged}

-- ---- one line

broken : (i a b rest : List ℕ) → written i a b ++ rest ≡ (i ++ (a ++ b)) ++ 10 ∷ rest
broken i a b rest =
    append_assoc i (a ++ (b ++ 10 ∷ [])) rest
    ∙ ap (λ t. i ++ t) (append_assoc a (b ++ 10 ∷ []) rest ∙ ap (λ t. a ++ t) (append_assoc b (10 ∷ []) rest) ∙ sym (append_assoc a b (10 ∷ rest)))
    ∙ sym (append_assoc i (a ++ b) (10 ∷ rest))

alone : (k : ℕ) (ws : List Written) (rest : List ℕ) → written (indent k) (text_of ws) [] ++ rest ≡ line_bytes (at k ws) ++ 10 ∷ rest
alone k ws rest = broken (indent k) (text_of ws) [] rest ∙ ap (λ t. (indent k ++ t) ++ 10 ∷ rest) (append-nil (text_of ws))

ended_text : (ws : List Written) (w : List ℕ) → text_of (ended ws w) ≡ text_of ws ++ 32 ∷ w
ended_text ws w = text_append ws (spaced (word w) ∷ []) ∙ ap (λ t. text_of ws ++ 32 ∷ t) (append-nil w)

with_word : (k : ℕ) (ws : List Written) (w rest : List ℕ) → written (indent k) (text_of ws) (32 ∷ w) ++ rest ≡ line_bytes (at k (ended ws w)) ++ 10 ∷ rest
with_word k ws w rest = broken (indent k) (text_of ws) (32 ∷ w) rest ∙ ap (λ t. (indent k ++ t) ++ 10 ∷ rest) (sym (ended_text ws w))

pub laid_append : (ls ks : List Laid) → laid_text (ls ++ ks) ≡ laid_text ls ++ laid_text ks
laid_append [] ks = refl
laid_append (l ∷ ls) ks = ap (λ t. line_bytes l ++ 10 ∷ t) (laid_append ls ks) ∙ sym (append_assoc (line_bytes l) (10 ∷ laid_text ls) (laid_text ks))

one_line : (k : ℕ) (ws : List Written) → written (indent k) (text_of ws) [] ≡ laid_text (at k ws ∷ [])
one_line k ws = sym (append-nil (written (indent k) (text_of ws) [])) ∙ alone k ws []

module _ (m : Lists) where
  items_laid : (k : ℕ) (joint : List ℕ) (es : List Expr) → items (indent k) (32 ∷ joint) (map (line_text m) es) ≡ laid_text (item_lines m k joint es)
  items_laid k joint [] = refl
  items_laid k joint (e ∷ []) = alone k (tree_words m e) []
  items_laid k joint (e ∷ f ∷ es) = with_word k (tree_words m e) joint (items (indent k) (32 ∷ joint) (map (line_text m) (f ∷ es))) ∙ ap (λ t. line_bytes (at k (ended (tree_words m e) joint)) ++ 10 ∷ t) (items_laid k joint (f ∷ es))

  group_laid_by : (k : ℕ) (e : Expr) (x : Expr-F Expr Row) → group_by m (indent k) e x ≡ laid_text (group_lines_by m k e x)
  group_laid_by k e (All es) = items_laid k (codes "and") es
  group_laid_by k e (Any es) = items_laid k (codes "or") es
  group_laid_by k e (Const v) = one_line k (tree_words m e)
  group_laid_by k e (Attr a) = one_line k (tree_words m e)
  group_laid_by k e (Not x) = one_line k (tree_words m e)
  group_laid_by k e (Op o xs) = one_line k (tree_words m e)
  group_laid_by k e (Certain x) = one_line k (tree_words m e)
  group_laid_by k e (Known x) = one_line k (tree_words m e)
  group_laid_by k e (Over q r xs) = one_line k (tree_words m e)
  group_laid_by k e (Window w xs) = one_line k (tree_words m e)
  group_laid_by k e (Rolling b n x) = one_line k (tree_words m e)
  group_laid_by k e (Table rows last) = one_line k (tree_words m e)

  group_laid : (k : ℕ) (e : Expr) → group_text m (indent k) e ≡ laid_text (group_lines m k e)
  group_laid k e = group_laid_by k e (out-Expr e)

  cases_laid : (rs : List Row) → cases m rs ≡ laid_text (case_lines m rs)
  cases_laid [] = refl
  cases_laid (r ∷ rs) =
      with_word 1 (tree_words m r.value) (codes "if") (group_text m (indent 2) r.cond ++ cases m rs)
      ∙ ap (λ t. line_bytes (at 1 (ended (tree_words m r.value) (codes "if"))) ++ 10 ∷ t) (ap₂ (λ s t. s ++ t) (group_laid 2 r.cond) (cases_laid rs) ∙ sym (laid_append (group_lines m 2 r.cond) (case_lines m rs)))

  abbrev phrase_text : AttrId → List ℕ
  phrase_text a = phrase_of_attribute (attribute_at m a)

  phrase_laid : (a : AttrId) → text_of (phrase_words m a) ≡ phrase_text a
  phrase_laid a = phrase_says false (phrase_text a)

  conditioned_laid : (a : AttrId) (e : Expr) → conditioned m (phrase_text a) e ≡ laid_text (conditioned_lines m a e)
  conditioned_laid a e =
      ap (λ t. written [] t (codes " if") ++ group_text m (codes "  ") e) (sym (phrase_laid a))
      ∙ with_word 0 (phrase_words m a) (codes "if") (group_text m (indent 1) e) ∙ ap (λ t. line_bytes (at 0 (ended (phrase_words m a) (codes "if"))) ++ 10 ∷ t) (group_laid 1 e)

  equated_text : (ws : List Written) → text_of (equated ws) ≡ text_of ws ++ codes " ="
  equated_text ws = text_append ws (spaced (symbol (codes "=")) ∷ [])

  table_laid : (a : AttrId) (rows : List Row) (last : Expr) → written [] (phrase_text a) (codes " =") ++ (cases m rows ++ written (codes "  ") (line_text m last) (codes " otherwise"))
      ≡ laid_text (at 0 (equated (phrase_words m a)) ∷ (case_lines m rows ++ at 1 (ended (tree_words m last) (codes "otherwise")) ∷ []))
  table_laid a rows last =
      let last_is : written (codes "  ") (line_text m last) (codes " otherwise") ≡ laid_text (at 1 (ended (tree_words m last) (codes "otherwise")) ∷ [])
      = sym (append-nil (written (codes "  ") (line_text m last) (codes " otherwise"))) ∙ with_word 1 (tree_words m last) (codes "otherwise") [] in
      broken [] (phrase_text a) (codes " =") (cases m rows ++ written (codes "  ") (line_text m last) (codes " otherwise"))
      ∙ ap₂ (λ s t. s ++ 10 ∷ t) (ap (λ t. t ++ codes " =") (sym (phrase_laid a)) ∙ sym (equated_text (phrase_words m a)))
      (ap₂ (λ s t. s ++ t) (cases_laid rows) last_is ∙ sym (laid_append (case_lines m rows) (at 1 (ended (tree_words m last) (codes "otherwise")) ∷ [])))

  -- a blank before a line is one before its text
  abbrev pub Moves : Expr → Type 0
  Moves e = text_of ((wording m e).as_line true) ≡ 32 ∷ line_text m e

  equation_laid : (a : AttrId) (e : Expr) → Moves e → written (phrase_text a) (codes " = ") (line_text m e) ≡ laid_text (at 0 (equated (phrase_words m a) ++ (wording m e).as_line true) ∷ [])
  equation_laid a e moves =
      let words : text_of (equated (phrase_words m a) ++ (wording m e).as_line true) ≡ phrase_text a ++ (codes " = " ++ line_text m e)
      = text_append (equated (phrase_words m a)) ((wording m e).as_line true) ∙ ap₂ (λ s t. s ++ t) (equated_text (phrase_words m a) ∙ ap (λ t. t ++ codes " =") (phrase_laid a)) moves
      ∙ append_assoc (phrase_text a) (codes " =") (32 ∷ line_text m e) in
      sym (append-nil (written (phrase_text a) (codes " = ") (line_text m e)))
      ∙ broken (phrase_text a) (codes " = ") (line_text m e) [] ∙ ap (λ t. t ++ 10 ∷ []) (sym words)

  concluded_laid_by : (a : AttrId) (e : Expr) (x : Expr-F Expr Row) → Moves e → concluded_by m (phrase_text a) e x ≡ laid_text (concluded_lines_by m a e x)
  concluded_laid_by a e (Table rows last) moves = table_laid a rows last
  concluded_laid_by a e (All es) moves = equation_laid a e moves
  concluded_laid_by a e (Any es) moves = equation_laid a e moves
  concluded_laid_by a e (Const v) moves = equation_laid a e moves
  concluded_laid_by a e (Attr b) moves = equation_laid a e moves
  concluded_laid_by a e (Not x) moves = equation_laid a e moves
  concluded_laid_by a e (Op o xs) moves = equation_laid a e moves
  concluded_laid_by a e (Certain x) moves = equation_laid a e moves
  concluded_laid_by a e (Known x) moves = equation_laid a e moves
  concluded_laid_by a e (Over q r xs) moves = equation_laid a e moves
  concluded_laid_by a e (Window w xs) moves = equation_laid a e moves
  concluded_laid_by a e (Rolling b n x) moves = equation_laid a e moves

  table_concluded : (a : AttrId) (rows : List Row) (last : Expr) → concluded m (phrase_text a) (V.Table rows last) ≡ laid_text (concluded_lines m a (V.Table rows last))
  table_concluded a rows last =
      let out = opened (Table rows last) (V.Table rows last) (V.rolls-Table rows last) in
      concluded-Table m (phrase_text a) rows last ∙ table_laid a rows last ∙ ap (λ x. laid_text (concluded_lines_by m a (V.Table rows last) x)) (sym out)

  concluded_laid : (a : AttrId) (e : Expr) → Moves e → concluded m (phrase_text a) e ≡ laid_text (concluded_lines m a e)
  concluded_laid a e moves = concluded_laid_by a e (out-Expr e) moves

  module _ (phrases : PhrasesEnd m) where
    moves : (e : Expr) → IsGrammatical m e → Moves e
    moves e h = let l = (tree_edged m phrases h).line in ap text_of (l.is true) ∙ ap (λ ws. 32 ∷ text_of ws) (sym (l.is false))

    tree_laid : (a : AttrId) (b : Bool) (e : Expr) → IsTree m b e
        → (if b then conditioned m (phrase_text a) e else concluded m (phrase_text a) e) ≡ laid_text (if b then conditioned_lines m a e else concluded_lines m a e)
    tree_laid a b e (IsTree.conditions x h) = conditioned_laid a x
    tree_laid a b e (IsTree.equation x h) = concluded_laid a x (moves x h)
    tree_laid a b e (IsTree.table rows last some hs h) = table_concluded a rows last

    pub rule_laid : (r : Rule) → IsRule m r → rule_text m r ≡ laid_text (rule_lines m r)
    rule_laid r h = tree_laid r.attr r.by_if r.expr h.tree
