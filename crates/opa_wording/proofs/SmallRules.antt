-- The lines of a rule that is not too deep, without long texts, are within the limits.
use Rattle.std.proofs.Common.{◌≡◌, ◌≤◌, ◌*◌, ℕ, List, [], ◌∷◌, ◌++◌, map, Bool, true, ◌&&◌, Some, sym, ap, subst, ◌∙◌, arith}
use Rattle.std.specs.Prelude.{if◌then◌else◌}
use Rattle.std.specs.List.{AllByRecursion}
use Rattle.opa_io.proofs.Bools.{and_first, and_second}
use Rattle.opa_model.specs.declared.lists.Lists.{Lists}
use Rattle.opa_tree.specs.declared.expr.Expr.{Expr}
use Rattle.opa_tree.specs.declared.expr.Row.{Row}
use Rattle.opa_tree.specs.declared.expr.Expr.TheOpen.{Table}
use Rattle.opa_tree.specs.declared.expr.Expr.TheViews.{out-Expr}
use Rattle.opa_tree.specs.declared.expr.Expr.TheVariants as V
use Rattle.opa_tree.specs.Trees.{depth}
use Rattle.opa_sentence.specs.declared.names.Names.{Names}
use Rattle.opa_sentence.specs.declared.reading.Reading.{Reading}
use Rattle.opa_sentence.specs.Grammar.{LINE}
use Rattle.opa_sentence.specs.Measures.{unbounded}
use Rattle.opa_sentence.proofs.LawsHold.{one_meaning_holds}
use Rattle.opa_parse.specs.declared.group.Joint.{Joint}
use Rattle.opa_parse.specs.declared.group.Joint.TheVariants as joint
use Rattle.opa_parse.specs.Naming.{names_in}
use Rattle.opa_wording.specs.Given.{AreRows, IsTree}
use Rattle.opa_wording.specs.Grammatical.{IsGrammatical}
use Rattle.opa_wording.specs.Laid.{tree_words}
use Rattle.opa_wording.specs.Limits.{all_true, has_short_texts, LineFits, group_trees, case_trees, concluded_trees_by, rule_trees}
use Rattle.opa_wording.specs.ReadBack.{SmallRulesFit}
use Rattle.opa_wording.specs.Told.{all_told, PhrasesAreRead}
use Rattle.opa_wording.proofs.Fitting.{joined_tree}
use Rattle.opa_wording.proofs.LaidGroups.{GroupForm, group_form}
use Rattle.opa_wording.proofs.LaidRules.{single_form}
use Rattle.opa_wording.proofs.LinesGiven.{Of}
use Rattle.opa_wording.proofs.PhrasesFound.{readable_is_read_holds}
use Rattle.opa_wording.proofs.RuleTexts.{opened}
use Rattle.opa_wording.proofs.Shortness.{short-All, short-Any, short-Table, Tells, short_by}
use Rattle.opa_wording.proofs.TightLines.{AreParts, tree_parts}
use Rattle.opa_wording.proofs.TreesSpelled.{lines_spell_trees_holds}

-- ---- the trees of lines have no long texts

abbrev AreShortTrees : List Expr → Type 0
AreShortTrees es = AllByRecursion (λ e. has_short_texts e ≡ true) es

each_short : (es : List Expr) → all_true (map has_short_texts es) ≡ true → AreShortTrees es
each_short [] h = tt
each_short (e ∷ es) h = (and_first (has_short_texts e) (all_true (map has_short_texts es)) h, each_short es (and_second (has_short_texts e) (all_true (map has_short_texts es)) h))

joined_short : (j : Joint) (es : List Expr) → has_short_texts (joined_tree j es) ≡ all_true (map has_short_texts es)
joined_short joint.And es = short-All es
joined_short joint.Or es = short-Any es

group_short : (m : Lists) (e : Expr) → IsGrammatical m e → has_short_texts e ≡ true → AreShortTrees (group_trees e)
group_short m e h s = go (group_form m h)
  where
    go : GroupForm m e → AreShortTrees (group_trees e)
    go (GroupForm.joined j es is l hs lines trees) = subst AreShortTrees (sym trees) (each_short es (sym (joined_short j es) ∙ ap has_short_texts (sym is) ∙ s))
    go (GroupForm.alone lines trees) = subst AreShortTrees (sym trees) (s, tt)

short_append : (es fs : List Expr) → AreShortTrees es → AreShortTrees fs → AreShortTrees (es ++ fs)
short_append [] fs h g = g
short_append (e ∷ es) fs h g = (h.0, short_append es fs h.1 g)

abbrev short_rows : List Row → Bool
short_rows rs = all_true (map (λ (r : Row). has_short_texts r.cond && has_short_texts r.value) rs)

cases_short : (m : Lists) (rs : List Row) → AreRows m rs → short_rows rs ≡ true → AreShortTrees (case_trees rs)
cases_short m [] h s = tt
cases_short m (r ∷ rs) h s =
    let here = and_first (has_short_texts r.cond && has_short_texts r.value) (short_rows rs) s in (
      and_second (has_short_texts r.cond) (has_short_texts r.value) here,
      short_append (group_trees r.cond) (case_trees rs) (group_short m r.cond h.0.cond (and_first (has_short_texts r.cond) (has_short_texts r.value) here)) (cases_short m rs h.1 (and_second (has_short_texts r.cond && has_short_texts r.value) (short_rows rs) s)),
    )

tree_short : (m : Lists) (by_if : Bool) (e : Expr) → IsTree m by_if e → has_short_texts e ≡ true → AreShortTrees (if by_if then group_trees e else concluded_trees_by e (out-Expr e))
tree_short m by_if e (IsTree.conditions x h) s = group_short m x h s
tree_short m by_if e (IsTree.equation x h) s = subst AreShortTrees (sym (single_form m h).trees) (s, tt)
tree_short m by_if e (IsTree.table rows last some hs h) s =
    let all = sym (short-Table rows last) ∙ s in
    subst AreShortTrees (sym (ap (concluded_trees_by (V.Table rows last)) (opened (Table rows last) (V.Table rows last) (V.rolls-Table rows last))))
    (short_append (case_trees rows) (last ∷ []) (cases_short m rows hs (and_first (short_rows rows) (has_short_texts last) all)) (and_second (short_rows rows) (has_short_texts last) all, tt))

-- ---- and are within the limits

module _ (m : Lists) (ns : Names) (read : PhrasesAreRead m ns) where
  line_fits : (e : Expr) → IsGrammatical m e → depth e ≤ 32 → has_short_texts e ≡ true → LineFits m ns e
  line_fits e h deep s x d =
      let t = lines_spell_trees_holds m ns read e h in
      let same : t.reading ≡ x = one_meaning_holds unbounded ns LINE (all_told (tree_words m e)) t.reading x t.spelled d in
      let is : x.tree ≡ Some e = ap (λ (r : Reading). r.tree) (sym same) ∙ t.tree_is in
      let nested : x.measure.nesting ≤ 2 * depth e = subst (λ (r : Reading). r.measure.nesting ≤ 2 * depth e) same t.nested in
      let tells : Of (Tells x.measure.short) (Some e) = subst (Of (Tells x.measure.short)) is (short_by ns d) in
      (omega (arith, nested, deep), tells s)

  lines_fit : (n : ℕ) (es : List Expr) → n ≤ 32 → AreParts m n es → AreShortTrees es → AllByRecursion (LineFits m ns) es
  lines_fit n [] le h s = tt
  lines_fit n (e ∷ es) le h s = let shallow = h.0.shallow in (line_fits e h.0.tree (omega (arith, shallow, le)) s.0, lines_fit n es le h.1 s.1)

pub small_rules_fit_hold : SmallRulesFit
small_rules_fit_hold m inferences legible r h deep s =
    lines_fit m (names_in m inferences) (readable_is_read_holds m inferences legible.readable legible.texts legible.others) (depth r.expr) (rule_trees r) deep (tree_parts m r.by_if r.expr h.tree) (tree_short m r.by_if r.expr h.tree s)
