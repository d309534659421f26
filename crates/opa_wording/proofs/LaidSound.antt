-- The lines of a rule are written as tokens, at levels that a layout takes.
use Rattle.std.proofs.Common.{◌≡◌, ◌≤◌, ℕ, List, [], ◌∷◌, ◌++◌, Bool, true, false, refl, sym, ap, subst, ◌∙◌, append_assoc, append-nil, arith}
use Rattle.std.specs.Prelude.{codes, if◌then◌else◌}
use Rattle.std.specs.List.{AllByRecursion}
use Rattle.opa_model.specs.declared.ids.AttrId.{AttrId}
use Rattle.opa_model.specs.declared.lists.Lists.{Lists}
use Rattle.opa_model.specs.Lookups.{attribute_at}
use Rattle.opa_model.specs.Models.{HasAttribute}
use Rattle.opa_tree.specs.declared.expr.Expr.{Expr}
use Rattle.opa_tree.specs.declared.expr.Row.{Row}
use Rattle.opa_tree.specs.declared.expr.Expr.TheOpen.{Expr-F, Const, Attr, All, Any, Not, Op, Certain, Known, Over, Window, Rolling, Table}
use Rattle.opa_tree.specs.declared.expr.Expr.TheViews.{out-Expr}
use Rattle.opa_tree.specs.declared.expr.Expr.TheVariants as V
use Rattle.opa_tree.specs.declared.rules.Rule.{Rule}
use Rattle.opa_words.specs.declared.kinds.TokenKind.{TokenKind}
use Rattle.opa_words.specs.declared.kinds.TokenKind.TheVariants as kind
use Rattle.opa_words.specs.Reserved.{is_word_kind}
use Rattle.opa_words.specs.Layout.Blocks.{block_lines}
use Rattle.opa_words.specs.Layout.Faults.{layout_faults}
use Rattle.opa_words.specs.Pieces.{Piece, IsPiece, word, symbol}
use Rattle.opa_words.specs.Written.{Written, AreWritten, spaced}
use Rattle.opa_wording.specs.Grammatical.{IsGrammatical, AreGrammatical}
use Rattle.opa_wording.specs.Grammatical as tree
use Rattle.opa_wording.specs.Given.{AreRows, IsTree, IsRule}
use Rattle.opa_wording.specs.Laid.{Laid, at, ended, equated, tree_words, item_lines, group_lines_by, group_lines, case_lines, phrase_words, conditioned_lines, concluded_lines_by, concluded_lines, rule_lines, size, laid_text, block_from}
use Rattle.opa_wording.specs.Rules.{rule_text}
use Rattle.opa_wording.specs.Told.{PhrasesAreWritten}
use Rattle.opa_wording.specs.Wordings.{wording, token, phrase_of_attribute}
use Rattle.opa_wording.proofs.Edges.{Leads, PhrasesEnd, tree_edged}
use Rattle.opa_wording.proofs.LaidGroups.{GroupForm, group_form, connector, connector_piece}
use Rattle.opa_wording.proofs.LaidRows.{IsSound, AreSound, AreEven, IsAt, even_append, even_more, BeginsWithWord, laid_out, laid_faultless}
use Rattle.opa_wording.proofs.LaidRules.{if_piece, otherwise_piece, first_each, later_each, single_form, if_written, cases_written, equation_written}
use Rattle.opa_wording.proofs.LaidTexts.{rule_laid}
use Rattle.opa_wording.proofs.PhrasePieces.{IsLed, behind, phrase_split}
use Rattle.opa_wording.proofs.RuleTexts.{opened}
use Rattle.opa_wording.proofs.TreesWell.{tree_well}

sound_append : (ls ks : List Laid) → AreSound ls → AreSound ks → AreSound (ls ++ ks)
sound_append [] ks h g = g
sound_append (l ∷ ls) ks h g = (h.0, sound_append ls ks h.1 g)

-- ---- words of lines

-- words before others begin the line
led_sound : (k : ℕ) (ws vs : List Written) (p : Piece) (later : List Written) → ws ≡ token false p ∷ later → AreWritten (ws ++ vs) → IsSound (at k (ws ++ vs))
led_sound k ws vs p later is h = record { first = p; later = later ++ vs; words_are = ap (λ us. us ++ vs) is; written = h }

module _ (m : Lists) (phrases : PhrasesAreWritten m) (ends : PhrasesEnd m) where
  line_lead : (e : Expr) (h : IsGrammatical m e) → Leads (wording m e).as_line
  line_lead e h = (tree_edged m ends h).line

  alone_sound : (k : ℕ) (e : Expr) → IsGrammatical m e → IsSound (at k (tree_words m e))
  alone_sound k e h =
      let l = line_lead e h in
      record { first = l.first; later = l.later; words_are = l.is false; written = subst AreWritten (append-nil (tree_words m e)) ((tree_well m phrases h).line false [] tt tt) }

  word_sound : (k : ℕ) (e : Expr) (w : List ℕ) → IsPiece (word w) → IsGrammatical m e → IsSound (at k (ended (tree_words m e) w))
  word_sound k e w is h =
      let l = line_lead e h in
      led_sound k (tree_words m e) (spaced (word w) ∷ []) l.first l.later (l.is false) ((tree_well m phrases h).line false (spaced (word w) ∷ []) refl (is, refl, tt))

  items_sound : (k : ℕ) (joint : List ℕ) → IsPiece (word joint) → (es : List Expr) → AreGrammatical m es → AreSound (item_lines m k joint es)
  items_sound k joint is [] h = tt
  items_sound k joint is (e ∷ []) (tree.AreGrammatical.one_more _ _ x xs) = (alone_sound k e x, tt)
  items_sound k joint is (e ∷ f ∷ es) (tree.AreGrammatical.one_more _ _ x xs) = (word_sound k e joint is x, items_sound k joint is (f ∷ es) xs)

  group_sound : (k : ℕ) (e : Expr) → IsGrammatical m e → AreSound (group_lines m k e)
  group_sound k e h = go (group_form m h)
    where
      go : GroupForm m e → AreSound (group_lines m k e)
      go (GroupForm.joined j es is l hs lines trees) = subst AreSound (sym (lines k)) (items_sound k (connector j) (connector_piece j) es hs)
      go (GroupForm.alone lines trees) = subst AreSound (sym (lines k)) (alone_sound k e h, tt)

  cases_sound : (rs : List Row) → AreRows m rs → AreSound (case_lines m rs)
  cases_sound [] h = tt
  cases_sound (r ∷ rs) h = (word_sound 1 r.value (codes "if") if_piece h.0.value, sound_append (group_lines m 2 r.cond) (case_lines m rs) (group_sound 2 r.cond h.0.cond) (cases_sound rs h.1))

-- ---- levels

item_levels : (m : Lists) (k : ℕ) (joint : List ℕ) (es : List Expr) → AllByRecursion (λ l. l.level ≡ k) (item_lines m k joint es)
item_levels m k joint [] = tt
item_levels m k joint (e ∷ es) = (refl, item_levels m k joint es)

group_levels_by : (m : Lists) (k : ℕ) (e : Expr) (x : Expr-F Expr Row) → AllByRecursion (λ l. l.level ≡ k) (group_lines_by m k e x)
group_levels_by m k e (All es) = item_levels m k (codes "and") es
group_levels_by m k e (Any es) = item_levels m k (codes "or") es
group_levels_by m k e (Const v) = (refl, tt)
group_levels_by m k e (Attr a) = (refl, tt)
group_levels_by m k e (Not x) = (refl, tt)
group_levels_by m k e (Op o xs) = (refl, tt)
group_levels_by m k e (Certain x) = (refl, tt)
group_levels_by m k e (Known x) = (refl, tt)
group_levels_by m k e (Over q r xs) = (refl, tt)
group_levels_by m k e (Window w xs) = (refl, tt)
group_levels_by m k e (Rolling b n x) = (refl, tt)
group_levels_by m k e (Table rows last) = (refl, tt)

abbrev AreShort : List Laid → Type 0
AreShort ls = AllByRecursion (λ l. size l ≤ 65536) ls

short_at : (k : ℕ) (ls : List Laid) → AllByRecursion (λ l. l.level ≡ k) ls → AreShort ls → AllByRecursion (IsAt k) ls
short_at k [] h s = tt
short_at k (l ∷ ls) h s = (record { level_is = h.0; short = s.0 }, short_at k ls h.1 s.1)

group_levels : (m : Lists) (k : ℕ) (e : Expr) → AreShort (group_lines m k e) → AllByRecursion (IsAt k) (group_lines m k e)
group_levels m k e s = short_at k (group_lines m k e) (group_levels_by m k e (out-Expr e)) s

cases_even : (m : Lists) (rs : List Row) (rest : List Laid) → AreShort (case_lines m rs) → AreEven 1 rest → AreEven 1 (case_lines m rs ++ rest)
cases_even m [] rest h e = e
cases_even m (r ∷ rs) rest h e =
    let group : List Laid = group_lines m 2 r.cond in
    let later = cases_even m rs rest (later_each (λ l. size l ≤ 65536) group (case_lines m rs) h.1) e in
    subst (λ ls. AreEven 1 (at 1 (ended (tree_words m r.value) (codes "if")) ∷ ls)) (sym (append_assoc group (case_lines m rs) rest))
    (AreEven.one_more (omega arith) (omega arith) h.0 (even_append 2 group (case_lines m rs ++ rest) 2 (omega arith) (group_levels m 2 r.cond (first_each (λ l. size l ≤ 65536) group (case_lines m rs) h.1)) (even_more 1 2 (case_lines m rs ++ rest) later (omega arith)) (omega arith)))

even_nothing : (k : ℕ) → AreEven k []
even_nothing k = AreEven.none

tree_even : (m : Lists) (a : AttrId) (by_if : Bool) (e : Expr) → IsTree m by_if e → AreShort (if by_if then conditioned_lines m a e else concluded_lines m a e) → AreEven 0 (if by_if then conditioned_lines m a e else concluded_lines m a e)
tree_even m a by_if e (IsTree.conditions x h) s =
    AreEven.one_more (omega arith) (omega arith) s.0 (subst (AreEven 1) (append-nil (group_lines m 1 x)) (even_append 1 (group_lines m 1 x) [] 1 (omega arith) (group_levels m 1 x s.1) (even_nothing 1) (omega arith)))
tree_even m a by_if e (IsTree.equation x h) s =
    let lines = (single_form m h).lines a in
    subst (AreEven 0) (sym lines) (AreEven.one_more (omega arith) (omega arith) (subst AreShort lines s).0 (even_nothing 1))
tree_even m a by_if e (IsTree.table rows last some hs h) s =
    let out = ap (concluded_lines_by m a (V.Table rows last)) (opened (Table rows last) (V.Table rows last) (V.rolls-Table rows last)) in
    let t = subst AreShort out s in
    let end : Laid = at 1 (ended (tree_words m last) (codes "otherwise")) in
    subst (AreEven 0) (sym out)
    (AreEven.one_more (omega arith) (omega arith) t.0 (cases_even m rows (end ∷ []) (first_each (λ l. size l ≤ 65536) (case_lines m rows) (end ∷ []) t.1) (AreEven.one_more (omega arith) (omega arith) (later_each (λ l. size l ≤ 65536) (case_lines m rows) (end ∷ []) t.1).0 (even_nothing 2))))

-- each has a level from one to two
abbrev pub AreBelow : List Laid → Type 0
AreBelow ls = AllByRecursion (λ l. (1 ≤ l.level) × (l.level ≤ 2)) ls

below_at : (k : ℕ) → 1 ≤ k → k ≤ 2 → (ls : List Laid) → AllByRecursion (λ l. l.level ≡ k) ls → AreBelow ls
below_at k low high [] h = tt
below_at k low high (l ∷ ls) h = let is = h.0 in ((omega (arith, is, low), omega (arith, is, high)), below_at k low high ls h.1)

below_append : (ls ks : List Laid) → AreBelow ls → AreBelow ks → AreBelow (ls ++ ks)
below_append [] ks h g = g
below_append (l ∷ ls) ks h g = (h.0, below_append ls ks h.1 g)

group_below : (m : Lists) (k : ℕ) (e : Expr) → 1 ≤ k → k ≤ 2 → AreBelow (group_lines m k e)
group_below m k e low high = below_at k low high (group_lines m k e) (group_levels_by m k e (out-Expr e))

cases_below : (m : Lists) (rs : List Row) → AreBelow (case_lines m rs)
cases_below m [] = tt
cases_below m (r ∷ rs) = ((omega arith, omega arith), below_append (group_lines m 2 r.cond) (case_lines m rs) (group_below m 2 r.cond (omega arith) (omega arith)) (cases_below m rs))

-- the first line stands at the left, and the others below it
pub record IsHeadedBy (ls : List Laid) : Type 0 where
  pub first : Laid
  pub later : List Laid
  pub lines_are : ls ≡ first ∷ later
  pub top : first.level ≡ 0
  pub below : AreBelow later

tree_headed : (m : Lists) (a : AttrId) (by_if : Bool) (e : Expr) → IsTree m by_if e → IsHeadedBy (if by_if then conditioned_lines m a e else concluded_lines m a e)
tree_headed m a by_if e (IsTree.conditions x h) = record { first = at 0 (ended (phrase_words m a) (codes "if")); later = group_lines m 1 x; lines_are = refl; top = refl; below = group_below m 1 x (omega arith) (omega arith) }
tree_headed m a by_if e (IsTree.equation x h) = record { first = at 0 (equated (phrase_words m a) ++ (wording m x).as_line true); later = []; lines_are = (single_form m h).lines a; top = refl; below = tt }
tree_headed m a by_if e (IsTree.table rows last some hs h) =
    let end : Laid = at 1 (ended (tree_words m last) (codes "otherwise")) in record {
      first = at 0 (equated (phrase_words m a));
      later = case_lines m rows ++ end ∷ [];
      lines_are = ap (concluded_lines_by m a (V.Table rows last)) (opened (Table rows last) (V.Table rows last) (V.rolls-Table rows last));
      top = refl;
      below = below_append (case_lines m rows) (end ∷ []) (cases_below m rows) ((omega arith, omega arith), tt);
    }

pub rule_headed : (m : Lists) (r : Rule) → IsRule m r → IsHeadedBy (rule_lines m r)
rule_headed m r h = tree_headed m r.attr r.by_if r.expr h.tree

-- ---- rules

-- the lines of a rule begin with its phrase
pub record Begins (ls : List Laid) : Type 0 where
  pub first : Laid
  pub later : List Laid
  pub lines_are : ls ≡ first ∷ later
  pub word : BeginsWithWord first
  pub sound : AreSound ls

word_kind : (p : Piece) → is_word_kind p.kind ≡ true → p ≡ word p.text
word_kind p h = go p.kind p.text h
  where
    go : (k : TokenKind) (t : List ℕ) → is_word_kind k ≡ true → (let q : Piece = record { kind = k; text = t } in q) ≡ word t
    go kind.Word t h = refl
    go kind.Number t h = absurd (cc h)
    go kind.Date t h = absurd (cc h)
    go kind.Text t h = absurd (cc h)
    go kind.Symbol t h = absurd (cc h)

module _ (m : Lists) (phrases : PhrasesAreWritten m) (ends : PhrasesEnd m) (a : AttrId) (l : IsLed (phrase_of_attribute (attribute_at m a))) where
  phrase_leads : phrase_words m a ≡ token false (word l.first.text) ∷ behind l.later
  phrase_leads = phrase_split (phrase_of_attribute (attribute_at m a)) l false ∙ ap (λ (p : Piece). token false p ∷ behind l.later) (word_kind l.first l.is_word)

  first_word : (vs : List Written) → BeginsWithWord (at 0 (phrase_words m a ++ vs))
  first_word vs = record {
    top = refl;
    text = l.first.text;
    later = behind l.later ++ vs;
    words_are = ap (λ ws. ws ++ vs) phrase_leads;
    piece = subst IsPiece (word_kind l.first l.is_word) l.is_first.is;
    unreserved = l.unreserved;
  }

  first_sound : (vs : List Written) → AreWritten (phrase_words m a ++ vs) → IsSound (at 0 (phrase_words m a ++ vs))
  first_sound vs h = led_sound 0 (phrase_words m a) vs (word l.first.text) (behind l.later) phrase_leads h

  begins : (vs : List Written) (later : List Laid) → AreWritten (phrase_words m a ++ vs) → AreSound later → Begins (at 0 (phrase_words m a ++ vs) ∷ later)
  begins vs later h s = record { first = at 0 (phrase_words m a ++ vs); later = later; lines_are = refl; word = first_word vs; sound = (first_sound vs h, s) }

module _ (m : Lists) (phrases : PhrasesAreWritten m) (ends : PhrasesEnd m) where
  tree_begins : (a : AttrId) → HasAttribute m a → IsLed (phrase_of_attribute (attribute_at m a)) → (by_if : Bool) (e : Expr) → IsTree m by_if e → Begins (if by_if then conditioned_lines m a e else concluded_lines m a e)
  tree_begins a has l by_if e (IsTree.conditions x h) = begins m phrases ends a l (spaced (word (codes "if")) ∷ []) (group_lines m 1 x) (if_written m phrases a has) (group_sound m phrases ends 1 x h)
  tree_begins a has l by_if e (IsTree.equation x h) =
      let ws : List Written = (wording m x).as_line true in
      let sign : Written = spaced (symbol (codes "=")) in
      subst Begins (sym ((single_form m h).lines a ∙ ap (λ vs. at 0 vs ∷ []) (append_assoc (phrase_words m a) (sign ∷ []) ws)))
      (begins m phrases ends a l (sign ∷ ws) [] (subst AreWritten (append_assoc (phrase_words m a) (sign ∷ []) ws) (equation_written m phrases a has x h)) tt)
  tree_begins a has l by_if e (IsTree.table rows last some hs h) =
      let out = ap (concluded_lines_by m a (V.Table rows last)) (opened (Table rows last) (V.Table rows last) (V.rolls-Table rows last)) in
      let end : Laid = at 1 (ended (tree_words m last) (codes "otherwise")) in
      subst Begins (sym out) (begins m phrases ends a l (spaced (symbol (codes "=")) ∷ []) (case_lines m rows ++ end ∷ []) (cases_written m phrases a has)
      (sound_append (case_lines m rows) (end ∷ []) (cases_sound m phrases ends rows hs) (word_sound m phrases ends 1 last (codes "otherwise") otherwise_piece h, tt)))

  module _ (r : Rule) (h : IsRule m r) (l : IsLed (phrase_of_attribute (attribute_at m r.attr))) where
    pub rule_begins : Begins (rule_lines m r)
    rule_begins = tree_begins r.attr h.attribute l r.by_if r.expr h.tree

    text_is : rule_text m r ≡ laid_text (rule_begins.first ∷ rule_begins.later)
    text_is = rule_laid m ends r h ∙ ap laid_text rule_begins.lines_are

    pub rule_laid_out : block_lines (rule_text m r) ≡ block_from 1 (rule_lines m r)
    rule_laid_out = ap block_lines text_is ∙ laid_out rule_begins.first rule_begins.later rule_begins.word (subst AreSound rule_begins.lines_are rule_begins.sound) ∙ ap (block_from 1) (sym rule_begins.lines_are)

    pub rule_faultless : AreShort (rule_lines m r) → layout_faults (rule_text m r) ≡ []
    rule_faultless short =
        ap layout_faults text_is
        ∙ laid_faultless rule_begins.first rule_begins.later rule_begins.word (subst AreSound rule_begins.lines_are rule_begins.sound) (subst (AreEven 0) rule_begins.lines_are (tree_even m r.attr r.by_if r.expr h.tree short))
