-- What is written reads back.
use Rattle.std.proofs.Common.{◌≡◌, ◌≤◌, ◌+◌, ◌*◌, inl, ℕ, List, [], ◌∷◌, ◌++◌, length, Bool, true, false, Option, Some, None, refl, sym, ap, ap₂, subst, ◌∙◌, append-nil, arith}
use Rattle.std.specs.Prelude.{codes, ◌||◌, ◌==◌, nat_lt, nat_le, if◌then◌else◌}
use Rattle.std.specs.Str.{chars, IsUtf8, bytes_eq}
use Rattle.std.proofs.lemmas.Bool.{and_right}
use Rattle.opa_model.specs.declared.ids.AttrId.{AttrId}
use Rattle.opa_model.specs.declared.lists.Lists.{Lists}
use Rattle.opa_model.specs.Lookups.{attribute_at}
use Rattle.opa_tree.specs.declared.expr.Expr.{Expr}
use Rattle.opa_tree.specs.declared.faults.RbFault.{RbFault}
use Rattle.opa_tree.specs.declared.faults.RbKind.TheVariants as fault_kind
use Rattle.opa_tree.specs.declared.rules.Inferred.{Inferred}
use Rattle.opa_tree.specs.declared.rules.Rule.{Rule}
use Rattle.opa_tree.specs.FirstFaults.{first_fault}
use Rattle.opa_tree.specs.Trees.{depth}
use Rattle.opa_words.specs.declared.kinds.Token.{Token}
use Rattle.opa_words.specs.Cuts.{Cuts}
use Rattle.opa_words.specs.Places.{token_text}
use Rattle.opa_words.specs.Reserved.{is_reserved, reserved}
use Rattle.opa_words.proofs.OneCut.{one_cut_holds}
use Rattle.opa_words.specs.declared.layout.block.Block.{Block}
use Rattle.opa_words.specs.declared.layout.block.BlockLine.{BlockLine}
use Rattle.opa_words.specs.Layout.Blocks.{AreBlocks, AreDeeper, IsHeaded, block_lines, lines_of}
use Rattle.opa_words.proofs.layout.OneLayout.{one_layout_holds}
use Rattle.opa_words.specs.Pieces.{word}
use Rattle.opa_words.specs.Written.{Written, AreWritten, text_of}
use Rattle.opa_io.specs.declared.limits.TheConstants.{MOST_DEPTH, MOST_NODES}
use Rattle.opa_sentence.specs.declared.names.Names.{Names}
use Rattle.opa_sentence.specs.declared.reading.Reading.{Reading}
use Rattle.opa_sentence.specs.Grammar.{LINE, Spells}
use Rattle.opa_sentence.specs.Lexemes.{Lexeme, lexemes}
use Rattle.opa_sentence.specs.Measures.{nodes, unbounded}
use Rattle.opa_sentence.proofs.LawsHold.{one_meaning_holds}
use Rattle.opa_parse.specs.declared.block.BlockSort.{BlockSort}
use Rattle.opa_parse.specs.declared.block.BlockSort.TheVariants as block_sort
use Rattle.opa_parse.specs.declared.block.RuleBlock.{RuleBlock}
use Rattle.opa_parse.specs.declared.block.Statement.{Statement}
use Rattle.opa_io.specs.declared.limits.TheConstants.{MOST_RULES}
use Rattle.opa_parse.specs.declared.group.Said.{Said}
use Rattle.opa_parse.specs.Blocks.{SpellsRule, IsStatement, statement}
use Rattle.opa_parse.specs.Fronts.{Stands}
use Rattle.opa_parse.specs.Naming.{names_in}
use Rattle.opa_parse.specs.Openings.{IsFirst, IsSortOf, IsSort, sort_of_word, sort_of}
use Rattle.opa_verbs.specs.Phrasing.{IsPhrase}
use Rattle.opa_parse.specs.RuleFaults.{when, fault_at, marked, size_faults, statement_faults, spelled_faults, passes}
use Rattle.opa_parse.specs.Rules as rules
use Rattle.opa_parse.specs.Rules.{IsRuleBlock, IsPassed, AreRuleBlocks, rule_from, rule_by, rule_in, rules_in, rule_faults, inferred_nodes, AreRules, AreRefused}
use Rattle.opa_parse.proofs.LawsHold.{one_rule_holds}
use Rattle.opa_wording.specs.Given.{IsRule}
use Rattle.opa_wording.specs.Laid.{Laid, rule_lines, block_line, block_from, tree_words}
use Rattle.opa_wording.specs.Limits.{IsWithinLimits}
use Rattle.opa_wording.specs.Lines.{line_text}
use Rattle.opa_wording.specs.ReadBack.{IsLegible, LinesReadBack, RulesAreLaidOut, RulesAreSpelled, placed, RulesReadBack}
use Rattle.opa_wording.specs.Rules.{rule_text}
use Rattle.opa_wording.specs.Told.{told, all_told, SpellsTree, PhrasesAreWritten}
use Rattle.opa_wording.specs.Wordings.{token, phrase_of_attribute}
use Rattle.opa_wording.proofs.Edges.{PhrasesEnd}
use Rattle.opa_wording.proofs.FirstLines.{phrases_end}
use Rattle.opa_wording.proofs.Fitting.{IsSaid}
use Rattle.opa_wording.proofs.LaidRules.{SpellsAs, rule_spelled}
use Rattle.opa_wording.proofs.LaidRows.{AreSound}
use Rattle.opa_wording.proofs.LaidSound.{Begins, AreBelow, IsHeadedBy, rule_headed, rule_begins, rule_laid_out, rule_faultless}
use Rattle.opa_parse.proofs.FrontLaws.{one_front}
use Rattle.opa_wording.proofs.LaidWords.{written_cut}
use Rattle.opa_wording.proofs.PhrasePieces.{IsLed, phrase_led}
use Rattle.opa_wording.proofs.PhrasesFound.{readable_is_read_holds, unlisted}
use Rattle.opa_wording.proofs.ReadableModels.{readable_is_written_holds, attribute_held}
use Rattle.opa_wording.proofs.TreesSpelled.{lines_spell_trees_holds}
use Rattle.opa_wording.proofs.TreesWell.{tree_well}

-- ---- lines

pub lines_read_back_hold : LinesReadBack
lines_read_back_hold m inferences legible e h =
    let ns : Names = names_in m inferences in
    let ws : List Written = tree_words m e in
    let phrases = readable_is_written_holds m inferences legible.readable legible.texts in
    let c = written_cut ws (subst AreWritten (append-nil ws) ((tree_well m phrases h).line false [] tt tt)) in
    let read = readable_is_read_holds m inferences legible.readable legible.texts legible.others in
    let s = subst (λ ls. SpellsTree ns LINE ls e [] (2 * depth e)) (sym c.words) (lines_spell_trees_holds m ns read e h) in record {
      utf8 = c.utf8;
      tokens = c.tokens;
      cut = c.cut;
      spells = s;
      only = λ ts x cut d.
          let same : ts ≡ c.tokens = one_cut_holds (length (line_text m e)) (chars (line_text m e)) ts c.tokens cut c.cut in
          ap (λ (r : Reading). r.tree) (one_meaning_holds unbounded ns LINE (lexemes (line_text m e) c.tokens) x s.reading (subst (λ us. Spells unbounded ns LINE (lexemes (line_text m e) us) x []) same d) s.spelled) ∙ s.tree_is;
    }

-- ---- rules

module _ (m : Lists) (inferences : List Inferred) (legible : IsLegible m inferences) (r : Rule) (h : IsRule m r) where
  pub phrases : PhrasesAreWritten m
  phrases = readable_is_written_holds m inferences legible.readable legible.texts

  pub ends : PhrasesEnd m
  ends = phrases_end m legible.readable.attributes legible.texts.attributes

  pub led : IsLed (phrase_of_attribute (attribute_at m r.attr))
  led = phrase_led (phrase_of_attribute (attribute_at m r.attr)) (attribute_held IsUtf8 m.attributes r.attr.0 h.attribute legible.texts.attributes) (attribute_held IsPhrase m.attributes r.attr.0 h.attribute legible.readable.attributes)

  laid : block_lines (rule_text m r) ≡ block_from 1 (rule_lines m r)
  laid = rule_laid_out m phrases ends r h led

pub rules_are_laid_out_hold : RulesAreLaidOut
rules_are_laid_out_hold m inferences legible r h = laid m inferences legible r h

pub rules_are_spelled_hold : RulesAreSpelled
rules_are_spelled_hold m inferences legible r h w =
    let s = rule_spelled m inferences legible.readable legible.texts legible.others r h w in record {
      said = s.said;
      spelled = subst (λ ls. SpellsRule m (names_in m inferences) ls (statement (Some r.attr) r.by_if s.said)) (sym (laid m inferences legible r h)) s.spelled;
      tree_is = s.says.says.tree_is;
    }

-- ---- the sort of a block

rule_word : (w : List ℕ) → is_reserved w ≡ false → sort_of_word w ≡ block_sort.Rule
rule_word w h =
    go (bytes_eq w (codes "verb")) (bytes_eq w (codes "entity")) (bytes_eq w (codes "global")) (bytes_eq w (codes "goal")) (bytes_eq w (codes "screen")) (bytes_eq w (codes "include")) (bytes_eq w (codes "table")) (bytes_eq w (codes "members"))
    (unlisted w reserved 0 (codes "verb") h refl) (unlisted w reserved 1 (codes "entity") h refl) (unlisted w reserved 2 (codes "global") h refl) (unlisted w reserved 3 (codes "goal") h refl)
    (unlisted w reserved 4 (codes "screen") h refl) (unlisted w reserved 5 (codes "include") h refl) (unlisted w reserved 6 (codes "table") h refl) (unlisted w reserved 7 (codes "members") h refl)
  where
    go : (a b c d e f g i : Bool) → a ≡ false → b ≡ false → c ≡ false → d ≡ false → e ≡ false → f ≡ false → g ≡ false → i ≡ false
        → (if (if a || b || c || d then true else e || f || g) then block_sort.Declaration else if i then block_sort.Members else block_sort.Rule) ≡ block_sort.Rule
    go true b c d e f g i p q r s t u v w = absurd (cc p)
    go false true c d e f g i p q r s t u v w = absurd (cc q)
    go false false true d e f g i p q r s t u v w = absurd (cc r)
    go false false false true e f g i p q r s t u v w = absurd (cc s)
    go false false false false true f g i p q r s t u v w = absurd (cc t)
    go false false false false false true g i p q r s t u v w = absurd (cc u)
    go false false false false false false true i p q r s t u v w = absurd (cc v)
    go false false false false false false false true p q r s t u v w = absurd (cc w)
    go false false false false false false false false p q r s t u v w = refl

-- a text that is cut, whose first word is this
record BeginsAs (text w : List ℕ) : Type 0 where
  pub first : Token
  pub later : List Token
  pub cut : Cuts (length text) (chars text) (first ∷ later)
  pub word_is : token_text text first ≡ w

begun_words : (text : List ℕ) (t : Lexeme) (ts : List Lexeme) (tokens : List Token) → Cuts (length text) (chars text) tokens → lexemes text tokens ≡ t ∷ ts → BeginsAs text t.text
begun_words text t ts [] d e = absurd (cc e)
begun_words text t ts (u ∷ us) d e = record { first = u; later = us; cut = d; word_is = first_text (lexemes text (u ∷ us)) (t ∷ ts) e }
  where
    text_of_first : List Lexeme → List ℕ
    text_of_first [] = []
    text_of_first (x ∷ xs) = x.text

    first_text : (xs ys : List Lexeme) → xs ≡ ys → text_of_first xs ≡ text_of_first ys
    first_text xs ys e = ap text_of_first e

stands_whole : (text : List ℕ) (ts : List Token) → Cuts (length text) (chars text) ts → Stands text text
stands_whole text ts d = inl (ts, d, refl)

only_word : (text w : List ℕ) → BeginsAs text w → (o : Option (List ℕ)) → IsFirst text o → o ≡ Some w
only_word text w b None none = absurd (none text b.first b.later (b.cut, stands_whole text (b.first ∷ b.later) b.cut))
only_word text w b (Some v) some =
    let front : some.0 ≡ text = one_front text some.0 text some.3.1 (stands_whole text (b.first ∷ b.later) b.cut) in
    let cut : Cuts (length text) (chars text) (some.1 ∷ some.2) = subst (λ x. Cuts (length x) (chars x) (some.1 ∷ some.2)) front some.3.0 in
    let tokens : some.1 ∷ some.2 ≡ b.first ∷ b.later = one_cut_holds (length text) (chars text) (some.1 ∷ some.2) (b.first ∷ b.later) cut b.cut in
    ap (λ x. Some x) (sym some.4 ∙ ap (λ x. token_text x some.1) front ∙ ap (token_text text) (let e : some.1 ≡ b.first = cc tokens in e) ∙ b.word_is)

is_rule_text : (text w : List ℕ) → BeginsAs text w → is_reserved w ≡ false → IsSortOf text block_sort.Rule
is_rule_text text w b h = (Some w, (text, b.first, b.later, (b.cut, stands_whole text (b.first ∷ b.later) b.cut), b.word_is), sym (rule_word w h))

only_rule : (text w : List ℕ) → BeginsAs text w → is_reserved w ≡ false → (s : BlockSort) → IsSortOf text s → s ≡ block_sort.Rule
only_rule text w b h s x = x.2 ∙ ap sort_of (only_word text w b x.0 x.1) ∙ rule_word w h

-- ---- a block alone

deeper_lines : (n : ℕ) (ls : List Laid) → AreBelow ls → AreDeeper (block_from n ls)
deeper_lines n [] h = tt
deeper_lines n (l ∷ ls) h = let low = h.0.0 in (omega (arith, low), deeper_lines (n + 1) ls h.1)

headed_lines : (ls : List Laid) → IsHeadedBy ls → IsHeaded (block_from 1 ls)
headed_lines ls h = subst (λ ks. IsHeaded (block_from 1 ks)) (sym h.lines_are) (h.top, deeper_lines 2 h.later h.below)

-- ---- no faults

not_lt : (n k : ℕ) → n ≤ k → nat_lt k n ≡ false
not_lt n k h = grind (arith, h)

few_rules : (0 == MOST_RULES) ≡ false
few_rules = refl

faultless_said : (before file line : ℕ) (a : AttrId) (by_if : Bool) (s : Said) (e : Expr) → IsSaid s e → depth e ≤ MOST_DEPTH → before + nodes e ≤ MOST_NODES → statement_faults 0 before file line (statement (Some a) by_if s) ≡ []
faultless_said before file line a by_if s e h deep wide =
    let d = h.says.kept.depth in
    let n = h.says.kept.nodes in
    let shallow : nat_lt MOST_DEPTH s.reading.measure.depth ≡ false = not_lt s.reading.measure.depth MOST_DEPTH (omega (arith, d, deep)) in
    let within : passes MOST_NODES before s.reading.measure.nodes ≡ false = and_right (nat_le before MOST_NODES) (nat_lt MOST_NODES (before + s.reading.measure.nodes)) (not_lt (before + s.reading.measure.nodes) MOST_NODES (omega (arith, n, wide))) in
    ap (λ b. (when b (fault_at file line fault_kind.Limit) ++ size_faults before file line s.reading) ++ ([] ++ marked file s.marks)) few_rules
    ∙ ap₂ (λ (b c : Bool). (when b (fault_at file line fault_kind.Limit) ++ when c (fault_at file line fault_kind.Limit)) ++ marked file s.marks) shallow within
    ∙ ap (marked file) h.unmarked

-- ---- the rule that is read

-- what the block of these lines is read as
record IsFound (m : Lists) (inferences : List Inferred) (file : ℕ) (r : Rule) (found : List RuleBlock) : Type 0 where
  pub rules_are : rules_in found ≡ placed file r ∷ []
  pub sound : rule_faults inferences found ≡ []

module _ (m : Lists) (inferences : List Inferred) (legible : IsLegible m inferences) (r : Rule) (h : IsRule m r) (w : IsWithinLimits m inferences r) (file : ℕ) where
  abbrev ns : Names
  ns = names_in m inferences

  abbrev lines : List BlockLine
  lines = block_from 1 (rule_lines m r)

  spelled : SpellsAs m inferences legible.readable legible.texts legible.others r.attr r.by_if (rule_lines m r) r.expr
  spelled = rule_spelled m inferences legible.readable legible.texts legible.others r h w

  abbrev block : Block
  block = record { file = file; lines = lines }

  phrase : IsLed (phrase_of_attribute (attribute_at m r.attr))
  phrase = led m inferences legible r h

  begins : Begins (rule_lines m r)
  begins = rule_begins m (phrases m inferences legible r h) (ends m inferences legible r h) r h phrase

  word_begins : BeginsAs (text_of begins.first.words) begins.word.text
  word_begins =
      let c = written_cut begins.first.words (subst AreSound begins.lines_are begins.sound).0.written in
      begun_words (text_of begins.first.words) (told (token false (word begins.word.text))) (all_told begins.word.later) c.tokens c.cut (c.words ∙ ap all_told begins.word.words_are)

  lines_begin : lines ≡ block_line 1 begins.first ∷ block_from 2 begins.later
  lines_begin = ap (block_from 1) begins.lines_are

  sort_is : IsSort lines block_sort.Rule
  sort_is = subst (λ ls. IsSort ls block_sort.Rule) (sym lines_begin) (is_rule_text (text_of begins.first.words) begins.word.text word_begins begins.word.unreserved)

  sort_only : (s : BlockSort) → IsSort lines s → s ≡ block_sort.Rule
  sort_only s x = only_rule (text_of begins.first.words) begins.word.text word_begins begins.word.unreserved s (subst (λ ls. IsSort ls s) lines_begin x)

  abbrev said : Statement
  said = statement (Some r.attr) r.by_if spelled.said

  only_statement : (o : Option Statement) → IsStatement m ns lines o → o ≡ Some said
  only_statement None none = absurd (none said spelled.spelled)
  only_statement (Some s) is = ap (λ x. Some x) (one_rule_holds m ns lines s said is spelled.spelled)

  number_is : rules.first_number lines ≡ 1
  number_is = ap rules.first_number lines_begin

  rule_found : (rb : RuleBlock) → IsRuleBlock m ns block rb → IsFound m inferences file r (rb ∷ [])
  rule_found rb is =
      let o = only_statement rb.statement is.says in
      let line : rb.line ≡ 1 = is.line_is ∙ number_is in
      let tree = spelled.says.says.tree_is in record {
        rules_are = ap (λ xs. xs ++ []) (ap₂ (λ (f n : ℕ). rule_by f n rb.statement) is.file_is line ∙ ap (rule_by file 1) o ∙ ap (λ t. rule_from file 1 (Some r.attr) t r.by_if) tree);
        sound = ap (λ x. x ++ []) (ap (rules_spelled_faults rb.file rb.line) o ∙ faultless_said (inferred_nodes inferences) rb.file rb.line r.attr r.by_if spelled.said r.expr spelled.says w.deep w.wide);
      }
    where
      rules_spelled_faults : ℕ → ℕ → Option Statement → List RbFault
      rules_spelled_faults f n o = spelled_faults 0 (inferred_nodes inferences) f n o

  block_found : (found : List RuleBlock) → AreRuleBlocks m ns (block ∷ []) found → IsFound m inferences file r found
  block_found found (AreRuleBlocks.passed p rest) = absurd (p.2 (sort_only p.0 p.1))
  block_found found (AreRuleBlocks.rule {r = rb} is AreRuleBlocks.none) = rule_found rb is

  alone : (blocks : List Block) → AreBlocks file blocks → lines_of blocks ≡ block_lines (rule_text m r) → blocks ≡ block ∷ []
  alone blocks are is = one_layout_holds file blocks (block ∷ []) are (refl, headed_lines (rule_lines m r) (rule_headed m r h), tt) (is ∙ laid m inferences legible r h ∙ sym (append-nil lines))

pub rules_read_back_hold : RulesReadBack
rules_read_back_hold m r inferences legible h w = record {
  sound = rule_faultless m (phrases m inferences legible r h) (ends m inferences legible r h) r h (led m inferences legible r h) w.short;
  rules = λ file blocks are is read a.
      let one = alone m inferences legible r h w file blocks are is in
      a.rules_are ∙ (block_found m inferences legible r h w file a.found (subst (λ bs. AreRuleBlocks m (names_in m inferences) bs a.found) one a.are_found)).rules_are;
  accepted = λ file blocks are is fault a.
      let one = alone m inferences legible r h w file blocks are is in
      let sound = (block_found m inferences legible r h w file a.found (subst (λ bs. AreRuleBlocks m (names_in m inferences) bs a.found) one a.are_found)).sound in
      let none : None ≡ Some fault = sym (ap first_fault sound) ∙ a.first in
      absurd (cc none);
}
