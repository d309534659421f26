-- No line of a rule ends with a blank, and none nests deeper than twice the depth of its tree.
use Rattle.std.proofs.Common.{◌≡◌, ◌≤◌, ◌*◌, ℕ, List, [], ◌∷◌, ◌++◌, map, Bool, true, false, not, refl, sym, ap, subst, ◌∙◌, arith, append_assoc, append-nil}
use Rattle.std.specs.Prelude.{◌&&◌, if◌then◌else◌}
use Rattle.std.specs.List.{list_all, AllByRecursion}
use Rattle.std.specs.Str.{chars, IsUtf8}
use lib.Utf8.{encodes}
use Rattle.std.proofs.lemmas.Str.{encodes-chars, encodes-append, encode_ascii, chars-nil}
use Rattle.std.proofs.lemmas.Bool.{and_from}
use Rattle.ucd_derived.proofs.Computing.{ucd_derived}
use Rattle.ucd_category.proofs.Computing.{ucd_category}
use Rattle.opa_io.proofs.Bools.{and_first, and_second}
use Rattle.opa_model.specs.declared.lists.Lists.{Lists}
use Rattle.opa_tree.specs.declared.expr.Expr.{Expr}
use Rattle.opa_tree.specs.declared.expr.Row.{Row}
use Rattle.opa_tree.specs.declared.expr.Expr.TheOpen.{Table}
use Rattle.opa_tree.specs.declared.expr.Expr.TheViews.{out-Expr}
use Rattle.opa_tree.specs.declared.expr.Expr.TheVariants as V
use Rattle.opa_tree.specs.declared.rules.Rule.{Rule}
use Rattle.opa_tree.specs.Trees.{depth, highest, row_depth}
use Rattle.opa_tree.proofs.DepthLaws.{depth-Table}
use Rattle.opa_words.specs.declared.kinds.TokenKind.{TokenKind}
use Rattle.opa_words.specs.declared.kinds.TokenKind.TheVariants as kind
use Rattle.opa_words.specs.Characters.{begins_word, continues_word}
use Rattle.opa_words.specs.Kinds.{IsToken, is_word, is_symbol, doubled, quoted}
use Rattle.opa_words.proofs.Letters.{starts, token_starts, date_parts}
use Rattle.opa_words.specs.Layout.Indents.{is_blank}
use Rattle.opa_words.specs.Written.{Written, AreWritten, text_of, gap}
use Rattle.opa_words.proofs.Separate.{all_wider, numeric, number_numeric, dated, date_dated}
use Rattle.opa_sentence.specs.declared.names.Names.{Names}
use Rattle.opa_sentence.specs.declared.reading.Reading.{Reading}
use Rattle.opa_sentence.specs.Grammar.{LINE}
use Rattle.opa_sentence.specs.Measures.{unbounded}
use Rattle.opa_sentence.proofs.LawsHold.{one_meaning_holds}
use Rattle.opa_parse.specs.Naming.{names_in}
use Rattle.opa_wording.specs.Given.{AreRows, IsTree, IsRule}
use Rattle.opa_wording.specs.Grammatical.{IsGrammatical, AreGrammatical}
use Rattle.opa_wording.specs.Grammatical as tree
use Rattle.opa_wording.specs.Laid.{Laid, rule_lines, tree_words}
use Rattle.opa_wording.specs.Limits.{group_trees, case_trees, concluded_trees_by, rule_trees}
use Rattle.opa_wording.specs.ReadBack.{ends_blank, IsTight, RulesAreTight, NestsAtMost, RulesNestAtMost}
use Rattle.opa_wording.specs.Told.{all_told}
use Rattle.opa_wording.proofs.Fitting.{joined_depth}
use Rattle.opa_wording.proofs.LaidGroups.{GroupForm, group_form}
use Rattle.opa_wording.proofs.LaidRows.{AreSound}
use Rattle.opa_wording.proofs.LaidRules.{single_form}
use Rattle.opa_wording.proofs.LaidSound.{AreBelow, rule_headed, rule_begins}
use Rattle.opa_wording.proofs.PhrasesFound.{readable_is_read_holds}
use Rattle.opa_wording.proofs.ReadingBack.{phrases, ends, led}
use Rattle.opa_wording.proofs.RuleTexts.{opened}
use Rattle.opa_wording.proofs.TokenBytes.{avoids, avoiding, compares, second_compares, encodes_passes}
use Rattle.opa_wording.proofs.TreesSpelled.{lines_spell_trees_holds}

-- ---- the last byte of a token

abbrev blanks : List ℕ
blanks = 32 ∷ 9 ∷ []

abbrev shown : ℕ → Bool
shown b = avoids blanks b

letters_shown : list_all (λ d. not (continues_word d)) blanks ≡ true
unfolding ucd_derived ucd_category
letters_shown = refl

first_letters_shown : list_all (λ d. not (begins_word d)) blanks ≡ true
unfolding ucd_derived
first_letters_shown = refl

word_shown : (cs : List ℕ) → is_word cs ≡ true → list_all shown cs ≡ true
word_shown [] h = refl
word_shown (c ∷ cs) h =
    and_from (shown c) (list_all shown cs) (avoiding blanks begins_word first_letters_shown c (and_first (begins_word c) (list_all continues_word cs) h))
    (all_wider continues_word shown cs (avoiding blanks continues_word letters_shown) (and_second (begins_word c) (list_all continues_word cs) h))

symbol_shown : (cs : List ℕ) → is_symbol cs ≡ true → list_all shown cs ≡ true
symbol_shown [] h = refl
symbol_shown (c ∷ []) h = and_from (shown c) true (avoiding blanks (starts kind.Symbol) refl c (token_starts kind.Symbol (c ∷ []) h)) refl
symbol_shown (c ∷ d ∷ []) h =
    and_from (shown c) (shown d && true) (avoiding blanks (starts kind.Symbol) refl c (token_starts kind.Symbol (c ∷ d ∷ []) h)) (and_from (shown d) true (avoiding blanks compares refl d (second_compares c d h)) refl)
symbol_shown (c ∷ d ∷ e ∷ cs) h = absurd (cc h)

shown_high : (b : ℕ) → 128 ≤ b → shown b ≡ true
shown_high b h = grind (arith, h)

shown_blank : (b : ℕ) → shown b ≡ true → is_blank b ≡ false
shown_blank b h = grind (arith, h)

all_shown : (bs : List ℕ) → list_all shown bs ≡ true → ends_blank bs ≡ false
all_shown [] h = refl
all_shown (b ∷ []) h = shown_blank b (and_first (shown b) true h)
all_shown (b ∷ c ∷ bs) h = all_shown (c ∷ bs) (and_second (shown b) (list_all shown (c ∷ bs)) h)

after_more : (xs : List ℕ) (y : ℕ) (ys : List ℕ) → ends_blank (xs ++ y ∷ ys) ≡ ends_blank (y ∷ ys)
after_more [] y ys = refl
after_more (x ∷ []) y ys = refl
after_more (x ∷ z ∷ xs) y ys = after_more (z ∷ xs) y ys

-- what ends without a blank, after whatever
ends_after : (xs ys : List ℕ) → ends_blank ys ≡ false → (ys ≡ [] → ⊥) → ends_blank (xs ++ ys) ≡ false
ends_after xs [] h some = absurd (some refl)
ends_after xs (y ∷ ys) h some = after_more xs y ys ∙ h

shown_text : (t : List ℕ) → IsUtf8 t → list_all shown (chars t) ≡ true → ends_blank t ≡ false
shown_text t u h = subst (λ x. ends_blank x ≡ false) (encodes-chars t u) (all_shown (encodes (chars t)) (encodes_passes shown shown_high (chars t) h))

quoted_ends : (inner : List ℕ) → ends_blank (encodes (quoted inner)) ≡ false
quoted_ends inner =
    let split : encodes (quoted inner) ≡ encodes (34 ∷ doubled inner) ++ encodes (34 ∷ []) = encodes-append (34 ∷ doubled inner) (34 ∷ []) in
    let last : encodes (34 ∷ []) ≡ 34 ∷ [] = ap (λ x. x ++ []) (encode_ascii 34 (omega arith)) in
    ap ends_blank (split ∙ ap (λ x. encodes (34 ∷ doubled inner) ++ x) last) ∙ after_more (encodes (34 ∷ doubled inner)) 34 []

token_ends : (k : TokenKind) (t : List ℕ) → IsUtf8 t → IsToken k (chars t) → ends_blank t ≡ false
token_ends kind.Word t u h = shown_text t u (word_shown (chars t) h)
token_ends kind.Number t u h = shown_text t u (all_wider numeric shown (chars t) (avoiding blanks numeric refl) (number_numeric (chars t) h))
token_ends kind.Date t u h = shown_text t u (all_wider dated shown (chars t) (avoiding blanks dated refl) (date_dated (chars t) (date_parts (chars t) h)))
token_ends kind.Text t u h = subst (λ x. ends_blank x ≡ false) (ap encodes (sym h.2) ∙ encodes-chars t u) (quoted_ends h.0)
token_ends kind.Symbol t u h = shown_text t u (symbol_shown (chars t) h)

no_empty : (k : TokenKind) (t : List ℕ) → IsUtf8 t → IsToken k (chars t) → t ≡ [] → ⊥
no_empty k t u h e = token_starts k [] (subst (IsToken k) (ap chars e ∙ chars-nil) h)

-- ---- the last byte of written tokens

pub written_ends : (ws : List Written) → AreWritten ws → ends_blank (text_of ws) ≡ false
written_ends [] h = refl
written_ends (w ∷ []) h =
    let t : List ℕ = w.piece.text in
    subst (λ x. ends_blank (gap w.spaced ++ x) ≡ false) (sym (append-nil t)) (ends_after (gap w.spaced) t (token_ends w.piece.kind t h.0.utf8 h.0.token) (no_empty w.piece.kind t h.0.utf8 h.0.token))
written_ends (w ∷ v ∷ ws) h =
    let some : text_of (v ∷ ws) ≡ [] → ⊥ = λ e. no_empty v.piece.kind v.piece.text h.2.0.utf8 h.2.0.token (nothing_in (gap v.spaced) v.piece.text (text_of ws) e) in
    let joined : text_of (w ∷ v ∷ ws) ≡ (gap w.spaced ++ w.piece.text) ++ text_of (v ∷ ws) = sym (append_assoc (gap w.spaced) w.piece.text (text_of (v ∷ ws))) in
    subst (λ x. ends_blank x ≡ false) (sym joined) (ends_after (gap w.spaced ++ w.piece.text) (text_of (v ∷ ws)) (written_ends (v ∷ ws) h.2) some)
  where
    nothing_in : (a b c : List ℕ) → a ++ (b ++ c) ≡ [] → b ≡ []
    nothing_in [] [] c e = refl
    nothing_in [] (x ∷ b) c e = absurd (cc e)
    nothing_in (x ∷ a) b c e = absurd (cc e)

-- ---- the lines of rules

low_lines : (ls : List Laid) → AreBelow ls → AllByRecursion (λ l. l.level ≤ 2) ls
low_lines [] h = tt
low_lines (l ∷ ls) h = (h.0.1, low_lines ls h.1)

rule_low : (m : Lists) (r : Rule) → IsRule m r → AllByRecursion (λ l. l.level ≤ 2) (rule_lines m r)
rule_low m r h =
    let d = rule_headed m r h in
    let top = d.top in
    subst (AllByRecursion (λ (l : Laid). l.level ≤ 2)) (sym d.lines_are) (omega (arith, top), low_lines d.later d.below)

tight : (ls : List Laid) → AllByRecursion (λ l. l.level ≤ 2) ls → AreSound ls → AllByRecursion IsTight ls
tight [] h s = tt
tight (l ∷ ls) h s = (record { low = h.0; first = s.0.first; later = s.0.later; words_are = s.0.words_are; written = s.0.written; ends = written_ends l.words s.0.written }, tight ls h.1 s.1)

pub rules_are_tight_hold : RulesAreTight
rules_are_tight_hold m inferences legible r h = tight (rule_lines m r) (rule_low m r h) (rule_begins m (phrases m inferences legible r h) (ends m inferences legible r h) r h (led m inferences legible r h)).sound

-- ---- the trees of rules

-- a tree of a line, no deeper than this
pub record IsPart (m : Lists) (n : ℕ) (e : Expr) : Type 0 where
  pub tree : IsGrammatical m e
  pub shallow : depth e ≤ n

abbrev pub AreParts : Lists → ℕ → List Expr → Type 0
AreParts m n es = AllByRecursion (IsPart m n) es

all_parts : (m : Lists) (n : ℕ) (es : List Expr) → AreGrammatical m es → highest (map depth es) ≤ n → AreParts m n es
all_parts m n [] h le = tt
all_parts m n (e ∷ es) (tree.AreGrammatical.one_more _ _ x xs) le = (record { tree = x; shallow = omega (arith, le) }, all_parts m n es xs (omega (arith, le)))

group_parts : (m : Lists) (n : ℕ) (e : Expr) → IsGrammatical m e → depth e ≤ n → AreParts m n (group_trees e)
group_parts m n e h le = go (group_form m h)
  where
    go : GroupForm m e → AreParts m n (group_trees e)
    go (GroupForm.joined j es is l hs lines trees) = subst (AreParts m n) (sym trees) (let d = ap depth is ∙ joined_depth j es in all_parts m n es hs (omega (arith, d, le)))
    go (GroupForm.alone lines trees) = subst (AreParts m n) (sym trees) (record { tree = h; shallow = le }, tt)

parts_append : (m : Lists) (n : ℕ) (es fs : List Expr) → AreParts m n es → AreParts m n fs → AreParts m n (es ++ fs)
parts_append m n [] fs h g = g
parts_append m n (e ∷ es) fs h g = (h.0, parts_append m n es fs h.1 g)

case_parts : (m : Lists) (n : ℕ) (rs : List Row) → AreRows m rs → highest (map row_depth rs) ≤ n → AreParts m n (case_trees rs)
case_parts m n [] h le = tt
case_parts m n (r ∷ rs) h le =
    (record { tree = h.0.value; shallow = omega (arith, le) }, parts_append m n (group_trees r.cond) (case_trees rs) (group_parts m n r.cond h.0.cond (omega (arith, le))) (case_parts m n rs h.1 (omega (arith, le))))

pub tree_parts : (m : Lists) (by_if : Bool) (e : Expr) → IsTree m by_if e → AreParts m (depth e) (if by_if then group_trees e else concluded_trees_by e (out-Expr e))
tree_parts m by_if e (IsTree.conditions x h) = group_parts m (depth x) x h (omega arith)
tree_parts m by_if e (IsTree.equation x h) = subst (AreParts m (depth x)) (sym (single_form m h).trees) (record { tree = h; shallow = omega arith }, tt)
tree_parts m by_if e (IsTree.table rows last some hs h) =
    let n : ℕ = depth (V.Table rows last) in
    let d = depth-Table rows last in
    subst (AreParts m n) (sym (ap (concluded_trees_by (V.Table rows last)) (opened (Table rows last) (V.Table rows last) (V.rolls-Table rows last))))
    (parts_append m n (case_trees rows) (last ∷ []) (case_parts m n rows hs (omega (arith, d))) (record { tree = h; shallow = omega (arith, d) }, tt))

nests : (m : Lists) (ns : Names) (n : ℕ) (es : List Expr) → AreParts m n es → ((e : Expr) → IsGrammatical m e → NestsAtMost m ns (2 * depth e) e) → AllByRecursion (NestsAtMost m ns (2 * n)) es
nests m ns n [] h f = tt
nests m ns n (e ∷ es) h f = (λ x d. (let k = f e h.0.tree x d in let s = h.0.shallow in omega (arith, k, s)), nests m ns n es h.1 f)

pub rules_nest_at_most_hold : RulesNestAtMost
rules_nest_at_most_hold m inferences legible r h =
    let ns : Names = names_in m inferences in
    let read = readable_is_read_holds m inferences legible.readable legible.texts legible.others in
    nests m ns (depth r.expr) (rule_trees r) (tree_parts m r.by_if r.expr h.tree) (λ e t x d.
    let s = lines_spell_trees_holds m ns read e t in
    let same : s.reading ≡ x = one_meaning_holds unbounded ns LINE (all_told (tree_words m e)) s.reading x s.spelled d in
    subst (λ (y : Reading). y.measure.nesting ≤ 2 * depth e) same s.nested)
