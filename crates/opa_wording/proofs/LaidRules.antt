-- The lines of a rule are spelled as it.
use Rattle.std.proofs.Common.{◌≡◌, ◌≤◌, ◌+◌, ℕ, pos, List, [], ◌∷◌, ◌++◌, length, max, Bool, true, false, Some, refl, sym, ap, subst, ◌∙◌, append_assoc, append-nil, arith}
use Rattle.std.specs.Prelude.{codes, nat_lt, if◌then◌else◌}
use Rattle.std.specs.List.{AllByRecursion}
use Rattle.std.specs.Str.{IsUtf8}
use Rattle.ucd_derived.proofs.Computing.{ucd_derived}
use Rattle.opa_value.specs.declared.value.Value.TheVariants as value
use Rattle.opa_model.specs.declared.ids.AttrId.{AttrId}
use Rattle.opa_model.specs.declared.lists.Lists.{Lists}
use Rattle.opa_model.specs.Lookups.{attribute_at}
use Rattle.opa_model.specs.Models.{HasAttribute}
use Rattle.opa_tree.specs.declared.kinds.OpKind.TheVariants as op
use Rattle.opa_tree.specs.declared.expr.Expr.{Expr}
use Rattle.opa_tree.specs.declared.expr.Row.{Row}
use Rattle.opa_tree.specs.declared.expr.Expr.TheOpen.{Expr-F, Const, Attr, All, Any, Not, Op, Certain, Known, Over, Window, Rolling, Table}
use Rattle.opa_tree.specs.declared.expr.Expr.TheViews.{out-Expr}
use Rattle.opa_tree.specs.declared.expr.Expr.TheVariants as V
use Rattle.opa_tree.specs.declared.rules.Inferred.{Inferred}
use Rattle.opa_tree.specs.declared.rules.Rule.{Rule}
use Rattle.opa_tree.proofs.DepthLaws.{depth-Table}
use Rattle.opa_words.specs.Kinds.{is_word}
use Rattle.opa_words.specs.Pieces.{IsPiece, word, symbol}
use Rattle.opa_words.specs.Written.{Written, AreWritten, spaced, ends_before}
use Rattle.opa_sentence.specs.declared.names.Names.{Names}
use Rattle.opa_sentence.specs.Bounding.{bound}
use Rattle.opa_sentence.specs.Grammar.{LINE, Spells}
use Rattle.opa_sentence.specs.Measures.{unbounded}
use Rattle.opa_sentence.specs.Spelling.{IsSpelling}
use Rattle.opa_parse.specs.declared.group.Cases.{Cases}
use Rattle.opa_parse.specs.declared.group.Said.{Said}
use Rattle.opa_parse.specs.declared.line.Line.{Line}
use Rattle.opa_parse.specs.Blocks.{SpellsRule, statement}
use Rattle.opa_parse.specs.Blocks as b
use Rattle.opa_parse.specs.Groups.{is_deeper, Grouped, Case, MoreCases, AllCases}
use Rattle.opa_parse.specs.Groups as g
use Rattle.opa_parse.specs.Lines.{AreLines, ending_of}
use Rattle.opa_parse.specs.Naming.{names_in}
use Rattle.opa_verbs.specs.Phrasing.{operand_phrases}
use Rattle.opa_parse.specs.declared.block.Opening.TheVariants as opens
use Rattle.opa_parse.specs.Openings.{opening, past_equals}
use Rattle.opa_parse.specs.Phrasing.{IsReadable}
use Rattle.opa_verbs.specs.Phrasing.{IsPhrase}
use Rattle.opa_text.proofs.WrittenValues.{named_piece}
use Rattle.opa_parse.specs.Sayings.{of_line, no_cases, with_case, tabled}
use Rattle.opa_wording.specs.Grammatical.{IsGrammatical, AreGrammatical}
use Rattle.opa_wording.specs.Grammatical as tree
use Rattle.opa_wording.specs.Given.{IsRow, AreRows, IsTree, IsRule}
use Rattle.opa_wording.specs.Laid.{Laid, at, ended, equated, tree_words, group_lines, case_lines, phrase_words, conditioned_lines, concluded_lines_by, concluded_lines, rule_lines, block_from}
use Rattle.opa_wording.specs.Limits.{LineFits, IsWithinLimits, group_trees, case_trees, concluded_trees_by}
use Rattle.opa_wording.specs.Told.{all_told, PhrasesAreRead, PhrasesAreWritten, AreTexts, OthersAreTexts}
use Rattle.opa_wording.specs.Wordings.{wording, token, phrase_of_attribute}
use Rattle.opa_wording.proofs.Edges.{Leads, PhrasesEnd, tree_edged}
use Rattle.opa_wording.proofs.FirstLines.{phrases_end, opens_if, opens_cases, opens_is, equation_past}
use Rattle.opa_wording.proofs.Foremost.{AllDiffer}
use Rattle.opa_wording.proofs.Fitting.{IsSmallTree, AreSmallRows, IsSaid, AreCases, line_said, deepest_row, all_row_nodes, no_cases_said, case_said, table_said, nodes-Table}
use Rattle.opa_wording.proofs.LaidGroups.{line_tree, group_said, word_item}
use Rattle.opa_wording.proofs.LaidWords.{words_cut, plain_ending, tree_line, lines_append, block_append}
use Rattle.opa_wording.proofs.PhrasePieces.{IsLed, phrase_led}
use Rattle.opa_wording.proofs.PhrasesFound.{readable_is_read_holds, operands_differ}
use Rattle.opa_wording.proofs.ReadableModels.{readable_is_written_holds, attribute_held}
use Rattle.opa_wording.proofs.RuleTexts.{opened}
use Rattle.opa_wording.proofs.TreesWell.{tree_well, phrase_well}
use Rattle.opa_wording.proofs.TreesWritten.{sign_piece}

if_word : is_word (codes "if") ≡ true
unfolding ucd_derived
if_word = refl

otherwise_word : is_word (codes "otherwise") ≡ true
unfolding ucd_derived
otherwise_word = refl

pub if_piece : IsPiece (word (codes "if"))
if_piece = named_piece (codes "if") refl if_word

pub otherwise_piece : IsPiece (word (codes "otherwise"))
otherwise_piece = named_piece (codes "otherwise") refl otherwise_word

equals_piece : IsPiece (symbol (codes "="))
equals_piece = sign_piece (codes "=") refl refl

-- ---- lists

pub first_each : {X : Type 0} (P : X → Type 0) (xs ys : List X) → AllByRecursion P (xs ++ ys) → AllByRecursion P xs
first_each P [] ys h = tt
first_each P (x ∷ xs) ys h = (h.0, first_each P xs ys h.1)

pub later_each : {X : Type 0} (P : X → Type 0) (xs ys : List X) → AllByRecursion P (xs ++ ys) → AllByRecursion P ys
later_each P [] ys h = h
later_each P (x ∷ xs) ys h = later_each P xs ys h.1

-- ---- rows that are small

deepest_rows : (rs ss : List Row) → deepest_row (rs ++ ss) ≡ max (deepest_row rs) (deepest_row ss)
deepest_rows [] ss = omega arith
deepest_rows (r ∷ rs) ss = omega (arith, deepest_rows rs ss)

widest_rows : (rs ss : List Row) → all_row_nodes (rs ++ ss) ≡ all_row_nodes rs + all_row_nodes ss
widest_rows [] ss = omega arith
widest_rows (r ∷ rs) ss = omega (arith, widest_rows rs ss)

-- what holds of the rows of a small table
record AreSmallParts (done : List Row) (r : Row) : Type 0 where
  pub value : IsSmallTree r.value
  pub cond : IsSmallTree r.cond
  pub rows : AreSmallRows (done ++ r ∷ [])

small_parts : (done : List Row) (r : Row) (rs : List Row) (last : Expr) → IsSmallTree (V.Table (done ++ (r ∷ rs)) last) → AreSmallParts done r
small_parts done r rs last h =
    let d = depth-Table (done ++ (r ∷ rs)) last in
    let n = nodes-Table (done ++ (r ∷ rs)) last in
    let dr = deepest_rows done (r ∷ rs) in
    let nr = widest_rows done (r ∷ rs) in
    let ds = deepest_rows done (r ∷ []) in
    let ns = widest_rows done (r ∷ []) in record {
      value = (omega (arith, h.0, d, dr), omega (arith, h.1, n, nr));
      cond = (omega (arith, h.0, d, dr), omega (arith, h.1, n, nr));
      rows = (omega (arith, h.0, d, dr, ds), omega (arith, h.1, n, nr, ns));
    }

small_last : (rows : List Row) (last : Expr) → IsSmallTree (V.Table rows last) → IsSmallTree last
small_last rows last h = (omega (arith, h.0, depth-Table rows last), omega (arith, h.1, nodes-Table rows last))

-- ---- a tree that follows an equals sign

-- it stands on the line of the phrase
pub record IsSingle (m : Lists) (e : Expr) : Type 0 where
  pub lines : (a : AttrId) → concluded_lines m a e ≡ at 0 (equated (phrase_words m a) ++ (wording m e).as_line true) ∷ []
  pub trees : concluded_trees_by e (out-Expr e) ≡ e ∷ []

single : (m : Lists) (e : Expr) (x : Expr-F Expr Row) → out-Expr e ≡ x → ((a : AttrId) → concluded_lines_by m a e x ≡ at 0 (equated (phrase_words m a) ++ (wording m e).as_line true) ∷ []) → concluded_trees_by e x ≡ e ∷ [] → IsSingle m e
single m e x is h t = record { lines = λ a. ap (concluded_lines_by m a e) is ∙ h a; trees = ap (concluded_trees_by e) is ∙ t }

pub single_form : (m : Lists) {e : Expr} → IsGrammatical m e → IsSingle m e
single_form m (tree.IsGrammatical.literal v i c) = single m (V.Const v) (Const v) (opened (Const v) (V.Const v) (V.rolls-Const v)) (λ a. refl) refl
single_form m (tree.IsGrammatical.attribute b has) = single m (V.Attr b) (Attr b) (opened (Attr b) (V.Attr b) (V.rolls-Attr b)) (λ a. refl) refl
single_form m (tree.IsGrammatical.all es l hs) = single m (V.All es) (All es) (opened (All es) (V.All es) (V.rolls-All es)) (λ a. refl) refl
single_form m (tree.IsGrammatical.any es l hs) = single m (V.Any es) (Any es) (opened (Any es) (V.Any es) (V.rolls-Any es)) (λ a. refl) refl
single_form m (tree.IsGrammatical.not e h) = single m (V.Not e) (Not e) (opened (Not e) (V.Not e) (V.rolls-Not e)) (λ a. refl) refl
single_form m (tree.IsGrammatical.operation o es r l hs) = single m (V.Op o es) (Op o es) (opened (Op o es) (V.Op o es) (V.rolls-Op o es)) (λ a. refl) refl
single_form m (tree.IsGrammatical.round e z range h) =
    let es : List Expr = e ∷ V.Const (value.Num (pos z)) ∷ [] in
    single m (V.Op op.Round es) (Op op.Round es) (opened (Op op.Round es) (V.Op op.Round es) (V.rolls-Op op.Round es)) (λ a. refl) refl
single_form m (tree.IsGrammatical.certain e h) = single m (V.Certain e) (Certain e) (opened (Certain e) (V.Certain e) (V.rolls-Certain e)) (λ a. refl) refl
single_form m (tree.IsGrammatical.known e h) = single m (V.Known e) (Known e) (opened (Known e) (V.Known e) (V.rolls-Known e)) (λ a. refl) refl
single_form m (tree.IsGrammatical.over q r es has l hs) = single m (V.Over q r es) (Over q r es) (opened (Over q r es) (V.Over q r es) (V.rolls-Over q r es)) (λ a. refl) refl
single_form m (tree.IsGrammatical.window w es l hs) = single m (V.Window w es) (Window w es) (opened (Window w es) (V.Window w es) (V.rolls-Window w es)) (λ a. refl) refl
single_form m (tree.IsGrammatical.rolling always n e few h) = single m (V.Rolling always n e) (Rolling always n e) (opened (Rolling always n e) (V.Rolling always n e) (V.rolls-Rolling always n e)) (λ a. refl) refl

above_two : (n : ℕ) → n ≡ 1 → nat_lt 2 n ≡ false
above_two n h = grind (arith, h)

same_told : (f : Bool → List Written) → Leads f → all_told (f true) ≡ all_told (f false)
same_told f l = ap all_told (l.is true) ∙ sym (ap all_told (l.is false))

regrouped : (x : Laid) (xs ys zs : List Laid) → (x ∷ (xs ++ ys)) ++ zs ≡ (x ∷ xs) ++ (ys ++ zs)
regrouped x xs ys zs = ap (λ ls. x ∷ ls) (append_assoc xs ys zs)

module _ (m : Lists) (ns : Names) (read : PhrasesAreRead m ns) (phrases : PhrasesAreWritten m) (ends : PhrasesEnd m) where
  abbrev Fits : List Expr → Type 0
  Fits es = AllByRecursion (LineFits m ns) es

  -- ---- cases

  -- these lines are a case, whatever follows that is no group's line
  record IsCase (n : ℕ) (laid : List Laid) (r : Row) : Type 0 where
    pub lines : List Line
    pub are : AreLines ns (block_from n laid) lines
    pub value : Said
    pub cond : Said
    pub value_is : IsSaid value r.value
    pub cond_is : IsSaid cond r.cond
    pub spelled : (cs : Cases) (rest : List Line) → is_deeper 2 rest ≡ false → Case ns (lines ++ rest) cs (with_case cs value cond) rest
    pub shallow : (rest : List Line) → is_deeper 2 (lines ++ rest) ≡ false

  one_case : (n : ℕ) (r : Row) → IsRow m r → LineFits m ns r.value → Fits (group_trees r.cond) → IsSmallTree r.value → IsSmallTree r.cond → IsCase n (at 1 (ended (tree_words m r.value) (codes "if")) ∷ group_lines m 2 r.cond) r
  one_case n r h fit fits small_value small_cond =
      let i = word_item m ns n 1 r.value (codes "if") if_piece refl (line_tree m ns read phrases ends r.value h.value fit) small_value in
      let c = group_said m ns read phrases ends (n + 1) 2 r.cond h.cond fits small_cond in record {
        lines = i.line ∷ c.lines;
        are = (i.is, c.are);
        value = of_line i.line.number i.reading;
        cond = c.group.said;
        value_is = line_said i.line.number i.reading r.value i.says;
        cond_is = c.said;
        spelled = λ cs rest d. g.Case.case i.level_is i.ending_is i.says_is (c.spelled rest d);
        shallow = λ rest. above_two i.line.level i.level_is;
      }

  abbrev last_line : Expr → Laid
  last_line last = at 1 (ended (tree_words m last) (codes "otherwise"))

  -- these lines go on from cases to the end of a table
  record IsRest (n : ℕ) (laid : List Laid) (cs : Cases) (rows : List Row) (last : Expr) : Type 0 where
    pub lines : List Line
    pub are : AreLines ns (block_from n laid) lines
    pub said : Said
    pub says : IsSaid said (V.Table rows last)
    pub spelled : MoreCases ns lines cs said []
    pub shallow : is_deeper 2 lines ≡ false

  more_rows : (n : ℕ) (rs done : List Row) (cs : Cases) (last : Expr) → AreCases cs done → AreRows m rs → IsGrammatical m last → Fits (case_trees rs ++ last ∷ []) → IsSmallTree (V.Table (done ++ rs) last)
      → IsRest n (case_lines m rs ++ last_line last ∷ []) cs (done ++ rs) last
  more_rows n [] done cs last k h hl fits small =
      let i = word_item m ns n 1 last (codes "otherwise") otherwise_piece refl (line_tree m ns read phrases ends last hl fits.0) (small_last (done ++ []) last small) in
      let s : Said = of_line i.line.number i.reading in
      let all : done ++ [] ≡ done = append-nil done in record {
        lines = i.line ∷ [];
        are = (i.is, tt);
        said = tabled cs s;
        says = subst (λ rows. IsSaid (tabled cs s) (V.Table rows last)) (sym all) (table_said cs done s last k (line_said i.line.number i.reading last i.says) (subst (λ rows. IsSmallTree (V.Table rows last)) all small));
        spelled = g.MoreCases.otherwise i.level_is i.ending_is i.says_is;
        shallow = above_two i.line.level i.level_is;
      }
  more_rows n (r ∷ rs) done cs last k h hl fits small =
      let parts = small_parts done r rs last small in
      let own = fits.1 in
      let joined : (group_trees r.cond ++ case_trees rs) ++ last ∷ [] ≡ group_trees r.cond ++ (case_trees rs ++ last ∷ []) = append_assoc (group_trees r.cond) (case_trees rs) (last ∷ []) in
      let later = subst Fits joined own in
      let c = one_case n r h.0 fits.0 (first_each (LineFits m ns) (group_trees r.cond) (case_trees rs ++ last ∷ []) later) parts.value parts.cond in
      let here : List Laid = at 1 (ended (tree_words m r.value) (codes "if")) ∷ group_lines m 2 r.cond in
      let more : List Laid = case_lines m rs ++ last_line last ∷ [] in
      let all : (done ++ r ∷ []) ++ rs ≡ done ++ (r ∷ rs) = append_assoc done (r ∷ []) rs in
      let d = more_rows (n + length here) rs (done ++ r ∷ []) (with_case cs c.value c.cond) last (case_said cs done c.value c.cond r k c.value_is c.cond_is parts.rows) h.1 hl (later_each (LineFits m ns) (group_trees r.cond) (case_trees rs ++ last ∷ []) later) (subst (λ rows. IsSmallTree (V.Table rows last)) (sym all) small) in
      let laid : case_lines m (r ∷ rs) ++ last_line last ∷ [] ≡ here ++ more = regrouped (at 1 (ended (tree_words m r.value) (codes "if"))) (group_lines m 2 r.cond) (case_lines m rs) (last_line last ∷ []) in record {
        lines = c.lines ++ d.lines;
        are = subst (λ bs. AreLines ns bs (c.lines ++ d.lines)) (sym (ap (block_from n) laid ∙ block_append n here more)) (lines_append ns (block_from n here) (block_from (n + length here) more) c.lines d.lines c.are d.are);
        said = d.said;
        says = subst (λ rows. IsSaid d.said (V.Table rows last)) all d.says;
        spelled = g.MoreCases.more_cases (c.spelled cs d.lines d.shallow) d.spelled;
        shallow = c.shallow d.lines;
      }

  -- the lines of a table
  record IsTable (n : ℕ) (laid : List Laid) (e : Expr) : Type 0 where
    pub lines : List Line
    pub are : AreLines ns (block_from n laid) lines
    pub said : Said
    pub says : IsSaid said e
    pub spelled : AllCases ns lines said []

  table_rows : (n : ℕ) (rows : List Row) (last : Expr) → 1 ≤ length rows → AreRows m rows → IsGrammatical m last → Fits (case_trees rows ++ last ∷ []) → IsSmallTree (V.Table rows last) → IsTable n (case_lines m rows ++ last_line last ∷ []) (V.Table rows last)
  table_rows n [] last some h hl fits small = absurd (omega (arith, some))
  table_rows n (r ∷ rs) last some h hl fits small =
      let parts = small_parts [] r rs last small in
      let joined : (group_trees r.cond ++ case_trees rs) ++ last ∷ [] ≡ group_trees r.cond ++ (case_trees rs ++ last ∷ []) = append_assoc (group_trees r.cond) (case_trees rs) (last ∷ []) in
      let own = fits.1 in
      let later = subst Fits joined own in
      let c = one_case n r h.0 fits.0 (first_each (LineFits m ns) (group_trees r.cond) (case_trees rs ++ last ∷ []) later) parts.value parts.cond in
      let here : List Laid = at 1 (ended (tree_words m r.value) (codes "if")) ∷ group_lines m 2 r.cond in
      let more : List Laid = case_lines m rs ++ last_line last ∷ [] in
      let d = more_rows (n + length here) rs (r ∷ []) (with_case no_cases c.value c.cond) last (case_said no_cases [] c.value c.cond r no_cases_said c.value_is c.cond_is parts.rows) h.1 hl (later_each (LineFits m ns) (group_trees r.cond) (case_trees rs ++ last ∷ []) later) small in
      let laid : case_lines m (r ∷ rs) ++ last_line last ∷ [] ≡ here ++ more = regrouped (at 1 (ended (tree_words m r.value) (codes "if"))) (group_lines m 2 r.cond) (case_lines m rs) (last_line last ∷ []) in record {
        lines = c.lines ++ d.lines;
        are = subst (λ bs. AreLines ns bs (c.lines ++ d.lines)) (sym (ap (block_from n) laid ∙ block_append n here more)) (lines_append ns (block_from n here) (block_from (n + length here) more) c.lines d.lines c.are d.are);
        said = d.said;
        says = d.says;
        spelled = g.AllCases.first_case (c.spelled no_cases d.lines d.shallow) d.spelled;
      }

-- ---- first lines

module _ (m : Lists) (phrases : PhrasesAreWritten m) (a : AttrId) (has : HasAttribute m a) where
  pub if_written : AreWritten (ended (phrase_words m a) (codes "if"))
  if_written = phrase_well (phrase_of_attribute (attribute_at m a)) (phrases.attributes a has) false (spaced (word (codes "if")) ∷ []) refl (if_piece, refl, tt)

  pub cases_written : AreWritten (equated (phrase_words m a))
  cases_written = phrase_well (phrase_of_attribute (attribute_at m a)) (phrases.attributes a has) false (spaced (symbol (codes "=")) ∷ []) refl (equals_piece, refl, tt)

  pub equation_written : (e : Expr) → IsGrammatical m e → AreWritten (equated (phrase_words m a) ++ (wording m e).as_line true)
  equation_written e h =
      let w = tree_well m phrases h in
      let ws : List Written = (wording m e).as_line true in
      let line : AreWritten ws = subst AreWritten (append-nil ws) (w.line true [] tt tt) in
      let leads = subst (λ vs. ends_before (symbol (codes "=")) vs ≡ true) (append-nil ws) (w.line_leads (symbol (codes "=")) []) in
      subst AreWritten (sym (append_assoc (phrase_words m a) (spaced (symbol (codes "=")) ∷ []) ws))
      (phrase_well (phrase_of_attribute (attribute_at m a)) (phrases.attributes a has) false (spaced (symbol (codes "=")) ∷ ws) refl (equals_piece, leads, line))

-- ---- rules

module _ (m : Lists) (inferences : List Inferred) (readable : IsReadable m inferences) (texts : AreTexts m) (others : OthersAreTexts m inferences) where
  abbrev pub ns : Names
  ns = names_in m inferences

  read : PhrasesAreRead m ns
  read = readable_is_read_holds m inferences readable texts others

  phrases : PhrasesAreWritten m
  phrases = readable_is_written_holds m inferences readable texts

  pub ends : PhrasesEnd m
  ends = phrases_end m readable.attributes texts.attributes

  -- these lines spell a rule that says the tree
  pub record SpellsAs (a : AttrId) (by_if : Bool) (laid : List Laid) (e : Expr) : Type 0 where
    pub said : Said
    pub spelled : SpellsRule m ns (block_from 1 laid) (statement (Some a) by_if said)
    pub says : IsSaid said e

  module _ (a : AttrId) (has : HasAttribute m a) where
    led : IsLed (phrase_of_attribute (attribute_at m a))
    led = phrase_led (phrase_of_attribute (attribute_at m a)) (attribute_held IsUtf8 m.attributes a.0 has texts.attributes) (attribute_held IsPhrase m.attributes a.0 has readable.attributes)

    differ : AllDiffer (operand_phrases m)
    differ = operands_differ m inferences readable texts others

    conditions_spelled : (e : Expr) → IsGrammatical m e → AllByRecursion (LineFits m ns) (group_trees e) → IsSmallTree e → SpellsAs a true (conditioned_lines m a e) e
    conditions_spelled e h fits small =
        let c = group_said m ns read phrases ends 2 1 e h fits small in record {
          said = c.group.said;
          spelled = b.SpellsRule.by_if refl (words_cut 1 0 (ended (phrase_words m a) (codes "if")) (if_written m phrases a has)) (opens_if m a has differ led) c.are
              (subst (λ ls. Grouped ns 1 ls c.group []) (append-nil c.lines) (c.spelled [] refl));
          says = c.said;
        }

    equation_words : (e : Expr) (h : IsGrammatical m e) → past_equals (all_told (equated (phrase_words m a) ++ (wording m e).as_line true)) ≡ all_told (tree_words m e)
    equation_words e h = equation_past m a has differ led ((wording m e).as_line true) ∙ same_told (wording m e).as_line (tree_edged m ends h).line

    equation_opens : (e : Expr) (h : IsGrammatical m e) → opening m (all_told (equated (phrase_words m a) ++ (wording m e).as_line true)) ≡ opens.Is (Some a)
    equation_opens e h =
        let l = (tree_edged m ends h).line in
        ap (λ ws. opening m (all_told (equated (phrase_words m a) ++ ws))) (l.is true) ∙ opens_is m a has differ led (token true l.first) l.later

    equation_spelled : (e : Expr) → IsGrammatical m e → LineFits m ns e → IsSmallTree e → SpellsAs a false (at 0 (equated (phrase_words m a) ++ (wording m e).as_line true) ∷ []) e
    equation_spelled e h fits small =
        let t = line_tree m ns read phrases ends e h fits in
        let l = tree_line m ns e t.spelled t.fits small in
        let words : List Written = equated (phrase_words m a) ++ (wording m e).as_line true in
        let past = equation_words e h in
        let spelling : IsSpelling ns LINE (past_equals (all_told words)) (Some (bound l.reading)) = (l.reading, subst (λ ts. Spells unbounded ns LINE ts l.reading []) (sym past) l.spelled, refl) in record {
          said = of_line 1 (bound l.reading);
          spelled = b.SpellsRule.by_line refl (words_cut 1 0 words (equation_written m phrases a has e h)) (equation_opens e h) (ap ending_of past ∙ (plain_ending (tree_words m e) t.plain).ending_is) spelling;
          says = line_said 1 (bound l.reading) e l.says;
        }

    table_spelled : (rows : List Row) (last : Expr) → 1 ≤ length rows → AreRows m rows → IsGrammatical m last → AllByRecursion (LineFits m ns) (case_trees rows ++ last ∷ []) → IsSmallTree (V.Table rows last)
        → SpellsAs a false (at 0 (equated (phrase_words m a)) ∷ (case_lines m rows ++ at 1 (ended (tree_words m last) (codes "otherwise")) ∷ [])) (V.Table rows last)
    table_spelled rows last some h hl fits small =
        let t = table_rows m ns read phrases ends 2 rows last some h hl fits small in record {
          said = t.said;
          spelled = b.SpellsRule.by_cases refl (words_cut 1 0 (equated (phrase_words m a)) (cases_written m phrases a has)) (opens_cases m a has differ led) t.are t.spelled;
          says = t.says;
        }

    tree_spelled : (by_if : Bool) (e : Expr) → IsTree m by_if e → AllByRecursion (LineFits m ns) (if by_if then group_trees e else concluded_trees_by e (out-Expr e)) → IsSmallTree e
        → SpellsAs a by_if (if by_if then conditioned_lines m a e else concluded_lines m a e) e
    tree_spelled by_if e (IsTree.conditions x h) fits small = conditions_spelled x h fits small
    tree_spelled by_if e (IsTree.equation x h) fits small =
        let s = single_form m h in
        subst (λ ls. SpellsAs a false ls x) (sym (s.lines a)) (equation_spelled x h (subst (AllByRecursion (LineFits m ns)) s.trees fits).0 small)
    tree_spelled by_if e (IsTree.table rows last some hs h) fits small =
        let out = opened (Table rows last) (V.Table rows last) (V.rolls-Table rows last) in
        subst (λ ls. SpellsAs a false ls (V.Table rows last)) (sym (ap (concluded_lines_by m a (V.Table rows last)) out))
        (table_spelled rows last some hs h (subst (AllByRecursion (LineFits m ns)) (ap (concluded_trees_by (V.Table rows last)) out) fits) small)

  pub rule_spelled : (r : Rule) → IsRule m r → IsWithinLimits m inferences r → SpellsAs r.attr r.by_if (rule_lines m r) r.expr
  rule_spelled r h w =
      let deep = w.deep in
      let wide = w.wide in
      tree_spelled r.attr h.attribute r.by_if r.expr h.tree w.lines (omega (arith, deep), omega (arith, wide))
