-- The lines of a group are spelled as it.
use Rattle.std.proofs.Common.{◌≡◌, ◌≤◌, ◌+◌, ◌*◌, ℕ, pos, List, [], ◌∷◌, ◌++◌, length, map, max, true, false, Option, Some, None, refl, sym, ap, subst, ◌∙◌, append_assoc, append-nil, arith}
use Rattle.std.specs.Prelude.{codes, nat_lt}
use Rattle.std.specs.List.{AllByRecursion}
use Rattle.opa_value.specs.declared.value.Value.TheVariants as value
use Rattle.opa_model.specs.declared.lists.Lists.{Lists}
use Rattle.opa_tree.specs.declared.kinds.OpKind.TheVariants as op
use Rattle.opa_tree.specs.declared.expr.Expr.{Expr}
use Rattle.opa_tree.specs.declared.expr.Row.{Row}
use Rattle.opa_tree.specs.declared.expr.Expr.TheOpen.{Expr-F, Const, Attr, All, Any, Not, Op, Certain, Known, Over, Window, Rolling}
use Rattle.opa_tree.specs.declared.expr.Expr.TheViews.{out-Expr}
use Rattle.opa_tree.specs.declared.expr.Expr.TheVariants as V
use Rattle.opa_tree.specs.Trees.{depth, highest}
use Rattle.opa_words.specs.Reserved.{is_ending}
use Rattle.opa_words.specs.Pieces.{IsPiece, word}
use Rattle.opa_words.specs.Written.{Written, AreWritten, spaced}
use Rattle.opa_sentence.specs.declared.names.Names.{Names}
use Rattle.opa_sentence.specs.Grammar.{LINE}
use Rattle.opa_sentence.specs.Measures.{nodes, total}
use Rattle.opa_text.proofs.WrittenValues.{named_piece}
use Rattle.opa_parse.specs.declared.group.Group.{Group}
use Rattle.opa_parse.specs.declared.group.Joint.{Joint}
use Rattle.opa_parse.specs.declared.group.Joint.TheVariants as joint
use Rattle.opa_parse.specs.declared.group.Said.{Said}
use Rattle.opa_parse.specs.declared.group.Several.{Several}
use Rattle.opa_parse.specs.declared.line.Ending.{Ending}
use Rattle.opa_parse.specs.declared.line.Ending.TheVariants as ending
use Rattle.opa_parse.specs.declared.line.Line.{Line}
use Rattle.opa_parse.specs.Groups.{is_deeper, written, Item, Grouped, More}
use Rattle.opa_parse.specs.Groups as g
use Rattle.opa_parse.specs.Lines.{AreLines, ending_word}
use Rattle.opa_parse.specs.Sayings.{of_line, one_item, with_item, single, several}
use Rattle.opa_wording.specs.Grammatical.{IsGrammatical, AreGrammatical}
use Rattle.opa_wording.specs.Grammatical as tree
use Rattle.opa_wording.specs.Laid.{Laid, at, ended, tree_words, item_lines, group_lines_by, group_lines, block_from}
use Rattle.opa_wording.specs.Limits.{LineFits, group_trees_by, group_trees}
use Rattle.opa_wording.specs.Told.{all_told, SpellsTree, PhrasesAreRead, PhrasesAreWritten}
use Rattle.opa_wording.proofs.Edges.{EndsPlainly, PhrasesEnd, tree_edged}
use Rattle.opa_wording.proofs.TreesWell.{tree_well}
use Rattle.opa_wording.proofs.TreesSpelled.{lines_spell_trees_holds}
use Rattle.opa_wording.proofs.TreesWritten.{and_word, or_word}
use Rattle.opa_wording.proofs.RuleTexts.{opened}
use Rattle.opa_wording.proofs.Fitting.{IsSmallTree, AreSmall, IsSaid, AreSaid, line_said, one_said, more_said, several_said, joined_tree, joined_depth, joined_nodes}
use Rattle.opa_wording.proofs.LaidWords.{plain_ending, word_ending, IsItem, item_line, tree_line}

-- ---- what is known of the trees of lines

-- The tree's line is written as tokens that spell it, and its last word is no ending.
pub record IsLineTree (m : Lists) (ns : Names) (e : Expr) : Type 0 where
  pub written : AreWritten (tree_words m e)
  pub with_word : (w : List ℕ) → IsPiece (word w) → AreWritten (ended (tree_words m e) w)
  pub plain : EndsPlainly (tree_words m e)
  pub spelled : SpellsTree ns LINE (all_told (tree_words m e)) e [] (2 * depth e)
  pub fits : LineFits m ns e

-- ---- what is small

abbrev deepest : List Expr → ℕ
deepest es = highest (map depth es)

abbrev all_nodes : List Expr → ℕ
all_nodes es = total (map nodes es)

deepest_append : (es fs : List Expr) → deepest (es ++ fs) ≡ max (deepest es) (deepest fs)
deepest_append [] fs = omega arith
deepest_append (e ∷ es) fs = omega (arith, deepest_append es fs)

widest_append : (es fs : List Expr) → all_nodes (es ++ fs) ≡ all_nodes es + all_nodes fs
widest_append [] fs = omega arith
widest_append (e ∷ es) fs = omega (arith, widest_append es fs)

small_front : (es fs : List Expr) → AreSmall (es ++ fs) → AreSmall es
small_front es fs h = (omega (arith, h.0, deepest_append es fs), omega (arith, h.1, widest_append es fs))

small_at : (es : List Expr) (e : Expr) (fs : List Expr) → AreSmall (es ++ e ∷ fs) → IsSmallTree e
small_at es e fs h = (omega (arith, h.0, deepest_append es (e ∷ fs)), omega (arith, h.1, widest_append es (e ∷ fs)))

-- ---- items

abbrev pub connector : Joint → List ℕ
connector joint.And = codes "and"
connector joint.Or = codes "or"

pub connector_piece : (j : Joint) → IsPiece (word (connector j))
connector_piece joint.And = named_piece (codes "and") refl and_word
connector_piece joint.Or = named_piece (codes "or") refl or_word

connector_ends : (j : Joint) → is_ending (connector j) ≡ true
connector_ends joint.And = refl
connector_ends joint.Or = refl

connector_ending : (j : Joint) → ending_word (connector j) ≡ written (Some j)
connector_ending joint.And = refl
connector_ending joint.Or = refl

not_deeper : (k n : ℕ) → n ≡ k → nat_lt k n ≡ false
not_deeper k n h = grind (arith, h)

module _ (m : Lists) (ns : Names) where
  abbrev pub AreLineTrees : List Expr → Type 0
  AreLineTrees es = AllByRecursion (IsLineTree m ns) es

  -- a line that ends with a word, and one that ends with none
  pub word_item : (n k : ℕ) (e : Expr) (w : List ℕ) → IsPiece (word w) → is_ending w ≡ true → IsLineTree m ns e → IsSmallTree e → IsItem ns n k (ended (tree_words m e) w) (ending_word w) e
  word_item n k e w is h t small =
      let l = tree_line m ns e t.spelled t.fits small in
      item_line ns n k (ended (tree_words m e) w) (tree_words m e) (ending_word w) e l.reading (t.with_word w is) (word_ending (tree_words m e) w h) l.spelled l.says

  joint_item : (n k : ℕ) (j : Joint) (e : Expr) → IsLineTree m ns e → IsSmallTree e → IsItem ns n k (ended (tree_words m e) (connector j)) (written (Some j)) e
  joint_item n k j e t small = subst (λ x. IsItem ns n k (ended (tree_words m e) (connector j)) x e) (connector_ending j) (word_item n k e (connector j) (connector_piece j) (connector_ends j) t small)

  last_item : (n k : ℕ) (e : Expr) → IsLineTree m ns e → IsSmallTree e → IsItem ns n k (tree_words m e) ending.Nothing e
  last_item n k e t small =
      let l = tree_line m ns e t.spelled t.fits small in
      item_line ns n k (tree_words m e) (tree_words m e) ending.Nothing e l.reading t.written (plain_ending (tree_words m e) t.plain) l.spelled l.says

  abbrev said_by : {n k : ℕ} {ws : List Written} {end : Ending} {e : Expr} → IsItem ns n k ws end e → Said
  said_by i = of_line i.line.number i.reading

  item_is : {n k : ℕ} {ws : List Written} {e : Expr} (j : Option Joint) (i : IsItem ns n k ws (written j) e) (rest : List Line) → is_deeper k rest ≡ false → Item ns k j (i.line ∷ rest) (of_line i.line.number i.reading) rest
  item_is j i rest d = g.Item.line i.level_is d i.ending_is i.says_is

  item_deeper : {n k : ℕ} {ws : List Written} {end : Ending} {e : Expr} (i : IsItem ns n k ws end e) (rest : List Line) → is_deeper k (i.line ∷ rest) ≡ false
  item_deeper {k = k} i rest = not_deeper k i.line.level i.level_is

  -- items that go on from others
  record IsMore (n k : ℕ) (j : Joint) (laid : List Laid) (y : Several) (es : List Expr) : Type 0 where
    pub lines : List Line
    pub are : AreLines ns (block_from n laid) lines
    pub result : Several
    pub said : AreSaid result es
    pub deeper : (rest : List Line) → is_deeper k (lines ++ rest) ≡ false
    pub spelled : (rest : List Line) → is_deeper k rest ≡ false → More ns k j (lines ++ rest) y result rest

  more_items : (n k : ℕ) (j : Joint) (e : Expr) (es before : List Expr) (y : Several) → AreSaid y before → AreLineTrees (e ∷ es) → AreSmall (before ++ (e ∷ es)) → IsMore n k j (item_lines m k (connector j) (e ∷ es)) y (before ++ (e ∷ es))
  more_items n k j e [] before y h ts small =
      let i = last_item n k e ts.0 (small_at before e [] small) in record {
        lines = i.line ∷ [];
        are = (i.is, tt);
        result = with_item y (of_line i.line.number i.reading);
        said = more_said y before (of_line i.line.number i.reading) e h (line_said i.line.number i.reading e i.says) small;
        deeper = λ rest. item_deeper i rest;
        spelled = λ rest d. g.More.end (item_is None i rest d);
      }
  more_items n k j e (f ∷ es) before y h ts small =
      let i = joint_item n k j e ts.0 (small_at before e (f ∷ es) small) in
      let s : Said = of_line i.line.number i.reading in
      let joined : (before ++ e ∷ []) ++ (f ∷ es) ≡ before ++ (e ∷ f ∷ es) = append_assoc before (e ∷ []) (f ∷ es) in
      let small_all : AreSmall ((before ++ e ∷ []) ++ (f ∷ es)) = subst AreSmall (sym joined) small in
      let said = more_said y before s e h (line_said i.line.number i.reading e i.says) (small_front (before ++ e ∷ []) (f ∷ es) small_all) in
      let r = more_items (n + 1) k j f es (before ++ e ∷ []) (with_item y s) said ts.1 small_all in record {
        lines = i.line ∷ r.lines;
        are = (i.is, r.are);
        result = r.result;
        said = subst (AreSaid r.result) joined r.said;
        deeper = λ rest. item_deeper i (r.lines ++ rest);
        spelled = λ rest d. g.More.more (item_is (Some j) i (r.lines ++ rest) (r.deeper rest)) (r.spelled rest d);
      }

  -- ---- groups

  -- these lines are a group that says the tree, whatever follows that is no deeper
  pub record IsGroupOf (n k : ℕ) (laid : List Laid) (e : Expr) : Type 0 where
    pub lines : List Line
    pub are : AreLines ns (block_from n laid) lines
    pub group : Group
    pub spelled : (rest : List Line) → is_deeper k rest ≡ false → Grouped ns k (lines ++ rest) group rest
    pub said : IsSaid group.said e

  group_of_one : (n k : ℕ) (e : Expr) → IsLineTree m ns e → IsSmallTree e → IsGroupOf n k (at k (tree_words m e) ∷ []) e
  group_of_one n k e t small =
      let i = last_item n k e t small in record {
        lines = i.line ∷ [];
        are = (i.is, tt);
        group = single (of_line i.line.number i.reading);
        spelled = λ rest d. g.Grouped.one (item_is None i rest d);
        said = line_said i.line.number i.reading e i.says;
      }

  small_items : (j : Joint) (es : List Expr) → IsSmallTree (joined_tree j es) → AreSmall es
  small_items j es h = (omega (arith, h.0, joined_depth j es), omega (arith, h.1, joined_nodes j es))

  group_of_items : (n k : ℕ) (j : Joint) (es : List Expr) → 2 ≤ length es → AreLineTrees es → IsSmallTree (joined_tree j es) → IsGroupOf n k (item_lines m k (connector j) es) (joined_tree j es)
  group_of_items n k j [] l ts small = absurd (omega (arith, l))
  group_of_items n k j (e ∷ []) l ts small = absurd (omega (arith, l))
  group_of_items n k j (e ∷ f ∷ es) l ts small =
      let all : AreSmall (e ∷ f ∷ es) = small_items j (e ∷ f ∷ es) small in
      let i = joint_item n k j e ts.0 (small_at [] e (f ∷ es) all) in
      let s : Said = of_line i.line.number i.reading in
      let one = one_said s e (line_said i.line.number i.reading e i.says) (small_front (e ∷ []) (f ∷ es) all) in
      let r = more_items (n + 1) k j f es (e ∷ []) (one_item s) one ts.1 all in record {
        lines = i.line ∷ r.lines;
        are = (i.is, r.are);
        group = several j r.result;
        spelled = λ rest d. g.Grouped.many j (item_is (Some j) i (r.lines ++ rest) (r.deeper rest)) (r.spelled rest d);
        said = several_said j r.result (e ∷ f ∷ es) r.said small;
      }

-- ---- the trees of groups

-- Its group is its parts, joined, or the tree alone, and it is no table.
pub data GroupForm (m : Lists) (e : Expr) : Type 0 where
  joined : (j : Joint) (es : List Expr) → e ≡ joined_tree j es → 2 ≤ length es → AreGrammatical m es → ((k : ℕ) → group_lines m k e ≡ item_lines m k (connector j) es) → group_trees e ≡ es → GroupForm m e
  alone : ((k : ℕ) → group_lines m k e ≡ at k (tree_words m e) ∷ []) → group_trees e ≡ e ∷ [] → GroupForm m e

alone_form : (m : Lists) (e : Expr) (x : Expr-F Expr Row) → out-Expr e ≡ x → ((k : ℕ) → group_lines_by m k e x ≡ at k (tree_words m e) ∷ []) → group_trees_by e x ≡ e ∷ [] → GroupForm m e
alone_form m e x is h t = GroupForm.alone (λ k. ap (group_lines_by m k e) is ∙ h k) (ap (group_trees_by e) is ∙ t)

pub group_form : (m : Lists) {e : Expr} → IsGrammatical m e → GroupForm m e
group_form m (tree.IsGrammatical.literal v i c) = alone_form m (V.Const v) (Const v) (opened (Const v) (V.Const v) (V.rolls-Const v)) (λ k. refl) refl
group_form m (tree.IsGrammatical.attribute a has) = alone_form m (V.Attr a) (Attr a) (opened (Attr a) (V.Attr a) (V.rolls-Attr a)) (λ k. refl) refl
group_form m (tree.IsGrammatical.all es l hs) =
    let out = opened (All es) (V.All es) (V.rolls-All es) in
    GroupForm.joined joint.And es refl l hs (λ k. ap (group_lines_by m k (V.All es)) out) (ap (group_trees_by (V.All es)) out)
group_form m (tree.IsGrammatical.any es l hs) =
    let out = opened (Any es) (V.Any es) (V.rolls-Any es) in
    GroupForm.joined joint.Or es refl l hs (λ k. ap (group_lines_by m k (V.Any es)) out) (ap (group_trees_by (V.Any es)) out)
group_form m (tree.IsGrammatical.not e h) = alone_form m (V.Not e) (Not e) (opened (Not e) (V.Not e) (V.rolls-Not e)) (λ k. refl) refl
group_form m (tree.IsGrammatical.operation o es r l hs) = alone_form m (V.Op o es) (Op o es) (opened (Op o es) (V.Op o es) (V.rolls-Op o es)) (λ k. refl) refl
group_form m (tree.IsGrammatical.round e z range h) =
    let es : List Expr = e ∷ V.Const (value.Num (pos z)) ∷ [] in
    alone_form m (V.Op op.Round es) (Op op.Round es) (opened (Op op.Round es) (V.Op op.Round es) (V.rolls-Op op.Round es)) (λ k. refl) refl
group_form m (tree.IsGrammatical.certain e h) = alone_form m (V.Certain e) (Certain e) (opened (Certain e) (V.Certain e) (V.rolls-Certain e)) (λ k. refl) refl
group_form m (tree.IsGrammatical.known e h) = alone_form m (V.Known e) (Known e) (opened (Known e) (V.Known e) (V.rolls-Known e)) (λ k. refl) refl
group_form m (tree.IsGrammatical.over q r es has l hs) = alone_form m (V.Over q r es) (Over q r es) (opened (Over q r es) (V.Over q r es) (V.rolls-Over q r es)) (λ k. refl) refl
group_form m (tree.IsGrammatical.window w es l hs) = alone_form m (V.Window w es) (Window w es) (opened (Window w es) (V.Window w es) (V.rolls-Window w es)) (λ k. refl) refl
group_form m (tree.IsGrammatical.rolling always n e few h) = alone_form m (V.Rolling always n e) (Rolling always n e) (opened (Rolling always n e) (V.Rolling always n e) (V.rolls-Rolling always n e)) (λ k. refl) refl

-- ---- groups of a model

module _ (m : Lists) (ns : Names) (read : PhrasesAreRead m ns) (phrases : PhrasesAreWritten m) (ends : PhrasesEnd m) where
  pub line_tree : (e : Expr) → IsGrammatical m e → LineFits m ns e → IsLineTree m ns e
  line_tree e h fits =
      let well = (tree_well m phrases h).line false in record {
        written = subst AreWritten (append-nil (tree_words m e)) (well [] tt tt);
        with_word = λ w is. well (spaced (word w) ∷ []) refl (is, refl, tt);
        plain = (tree_edged m ends h).line_ends false;
        spelled = lines_spell_trees_holds m ns read e h;
        fits = fits;
      }

  line_trees : (es : List Expr) → AreGrammatical m es → AllByRecursion (LineFits m ns) es → AreLineTrees m ns es
  line_trees [] h fits = tt
  line_trees (e ∷ es) (tree.AreGrammatical.one_more _ _ x xs) fits = (line_tree e x fits.0, line_trees es xs fits.1)

  pub group_said : (n k : ℕ) (e : Expr) → IsGrammatical m e → AllByRecursion (LineFits m ns) (group_trees e) → IsSmallTree e → IsGroupOf m ns n k (group_lines m k e) e
  group_said n k e h fits small = go (group_form m h)
    where
      go : GroupForm m e → IsGroupOf m ns n k (group_lines m k e) e
      go (GroupForm.joined j es is l hs lines trees) =
          subst (λ x. IsGroupOf m ns n k (group_lines m k e) x) (sym is)
          (subst (λ ls. IsGroupOf m ns n k ls (joined_tree j es)) (sym (lines k)) (group_of_items m ns n k j es l (line_trees es hs (subst (AllByRecursion (LineFits m ns)) trees fits)) (subst IsSmallTree is small)))
      go (GroupForm.alone lines trees) = subst (λ ls. IsGroupOf m ns n k ls e) (sym (lines k)) (group_of_one m ns n k e (line_tree e h (subst (AllByRecursion (LineFits m ns)) trees fits).0) small)
