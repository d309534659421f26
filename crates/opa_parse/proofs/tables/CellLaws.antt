-- A cell says one thing at most.
use Rattle.std.proofs.Common.{◌≡◌, ◌↔◌, IsTrue, ◌==◌, arith, ℕ, List, [], ◌∷◌, length, Bool, true, false, ◌&&◌, Option, Some, None, option_map, MatchOption, refl, sym, ap, subst, ◌∙◌}
use Rattle.std.specs.Str.{chars}
use Rattle.std.proofs.lemmas.Str.{chars-nil}
use Rattle.opa_model.specs.declared.lists.Lists.{Lists}
use Rattle.opa_tree.specs.declared.kinds.OpKind.{OpKind}
use Rattle.opa_tree.specs.declared.kinds.OpKind.TheVariants as op
use Rattle.opa_words.specs.Cuts as w
use Rattle.opa_words.proofs.OneCut.{one_cut_holds}
use Rattle.opa_sentence.specs.declared.class.Class.{Class}
use Rattle.opa_sentence.specs.declared.class.Class.TheVariants as class
use Rattle.opa_sentence.specs.declared.names.Names.{Names}
use Rattle.opa_sentence.specs.declared.reading.Reading.{Reading}
use Rattle.opa_sentence.specs.Bounding.{bound}
use Rattle.opa_sentence.specs.Measures.{unbounded}
use Rattle.opa_sentence.specs.Lexemes.{Lexeme, lexemes}
use Rattle.opa_sentence.specs.Grammar.{Part, LINE, OPERAND}
use Rattle.opa_sentence.specs.Spelling.{IsSpelling}
use Rattle.opa_sentence.proofs.LawsHold.{one_meaning_holds}
use Rattle.opa_parse.specs.declared.line.Ending.{Ending}
use Rattle.opa_parse.specs.declared.line.Ending.TheVariants as ending
use Rattle.opa_parse.specs.Lines.{is_none}
use Rattle.opa_parse.specs.Openings.{concluded}
use Rattle.opa_parse.specs.declared.tables.cells.Heading.{Heading}
use Rattle.opa_parse.specs.declared.tables.cells.Heading.TheVariants as heading
use Rattle.opa_parse.specs.declared.tables.cells.Test.{Test}
use Rattle.opa_parse.specs.declared.tables.cells.Test.TheVariants as test
use Rattle.opa_parse.specs.Tables.Cells as c
use Rattle.opa_parse.specs.Tables.Cells.{Says, IsCell, is_equals, begins_with_equals, are_words, IsOperand, IsCondition, SpellsHead, IsHeadCell, is_literal_class, is_minus, is_number, are_literal, IsLiteral, sign_of, SpellsTest, IsConditionCell, IsLine, IsValueCell, is_otherwise, IsOtherwiseCell}

-- ---- words

pub one_cell : (cell : List ℕ) (ws vs : List Lexeme) → IsCell cell ws → IsCell cell vs → ws ≡ vs
one_cell cell ws vs a b = a.words_are ∙ ap (lexemes cell) (one_cut_holds (length cell) (chars cell) a.tokens b.tokens a.cut b.cut) ∙ sym b.words_are

pub one_spelling : (ns : Names) (p : Part) (ws : List Lexeme) (x y : Reading) → IsSpelling ns p ws (Some x) → IsSpelling ns p ws (Some y) → x ≡ y
one_spelling ns p ws x y a b = a.2 ∙ ap bound (one_meaning_holds unbounded ns p ws a.0 b.0 a.1 b.1) ∙ sym b.2

pub says_spelled : (ns : Names) (p : Part) (ws : List Lexeme) (o : Option Reading) → IsSpelling ns p ws o → Says (λ x. IsSpelling ns p ws (Some x)) o
says_spelled ns p ws None h = λ x k. h k.0 k.1
says_spelled ns p ws (Some x) h = h

-- what words say, a cell of these words says
module _ {A : Type 0} (P : List Lexeme → A → Type 0) where
  abbrev pub OfCell : List ℕ → A → Type 0
  OfCell cell x = (ws : List Lexeme) × IsCell cell ws × P ws x

  pub cell_says : (cell : List ℕ) (ws : List Lexeme) (o : Option A) → IsCell cell ws → Says (P ws) o → Says (OfCell cell) o
  cell_says cell ws None is none = λ x h. none x (subst (λ v. P v x) (one_cell cell h.0 ws h.1 is) h.2)
  cell_says cell ws (Some x) is h = (ws, is, h)

  pub cell_says_none : (cell : List ℕ) → ((ws : List Lexeme) → IsCell cell ws → ⊥) → (x : A) → OfCell cell x → ⊥
  cell_says_none cell none x h = none h.0 h.1

  pub one_of_cell : ((ws : List Lexeme) (x y : A) → P ws x → P ws y → x ≡ y) → (cell : List ℕ) (x y : A) → OfCell cell x → OfCell cell y → x ≡ y
  one_of_cell one cell x y a b = one b.0 x y (subst (λ v. P v x) (one_cell cell a.0 b.0 a.1 b.1) a.2) b.2

-- ---- endings

pub ends_so : (P : Reading → Type 0) (e : Ending) (o : Option Reading) → e ≡ ending.Nothing → Says P o → Says (λ x. (e ≡ ending.Nothing) × P x) o
ends_so P e None p none = λ x h. none x h.1
ends_so P e (Some x) p h = (p, h)

-- ---- heads

pub no_head : (m : Lists) (ns : Names) (ws : List Lexeme) → begins_with_equals ws ≡ false → ((x : Reading) → IsCondition ns ws x → ⊥) → (h : Heading) → SpellsHead m ns ws h → ⊥
no_head m ns ws b none h (c.SpellsHead.condition {x = x} e k) = none x k
no_head m ns ws b none h (c.SpellsHead.conclusion e k) = absurd (let q : true ≡ false = sym e ∙ b in cc q)

pub as_head : (m : Lists) (ns : Names) (ws : List Lexeme) (x : Option Reading) (o : Option Heading) → begins_with_equals ws ≡ false → Says (IsCondition ns ws) x
    → MatchOption o (x ≡ None) (λ h. (y : Reading) × (x ≡ Some y) × (h ≡ heading.Condition y)) → Says (SpellsHead m ns ws) o
as_head m ns ws x None b k e = no_head m ns ws b (subst (Says (IsCondition ns ws)) e k)
as_head m ns ws x (Some h) b k e = subst (SpellsHead m ns ws) (sym e.2) (c.SpellsHead.condition b (subst (Says (IsCondition ns ws)) e.1 k))

no_words : (m : Lists) (ns : Names) (t : Lexeme) (ws : List Lexeme) (h : Heading) → is_equals t.class ≡ true → are_words ws ≡ false → SpellsHead m ns (t ∷ ws) h → ⊥
no_words m ns t ws h e w (c.SpellsHead.condition b k) = absurd (let q : true ≡ false = sym e ∙ b in cc q)
no_words m ns t ws h e w (c.SpellsHead.conclusion b k) = absurd (let q : true ≡ false = sym k ∙ w in cc q)

pub concludes : (m : Lists) (ns : Names) (ws vs : List Lexeme) (t : Lexeme) (o : Option Heading) → ws ≡ t ∷ vs → is_equals t.class ≡ true
    → MatchOption o (are_words vs ≡ false) (λ h. (are_words vs ≡ true) × (h ≡ heading.Conclusion (concluded m vs))) → Says (SpellsHead m ns ws) o
concludes m ns ws vs t None e is k = λ h s. no_words m ns t vs h is k (subst (λ w. SpellsHead m ns w h) e s)
concludes m ns ws vs t (Some h) e is k = subst (λ w. SpellsHead m ns w h) (sym e) (subst (SpellsHead m ns (t ∷ vs)) (sym k.1) (c.SpellsHead.conclusion is k.0))

one_condition : (m : Lists) (ns : Names) (ws : List Lexeme) (x : Reading) (h : Heading) → begins_with_equals ws ≡ false → IsCondition ns ws x → SpellsHead m ns ws h → heading.Condition x ≡ h
one_condition m ns ws x h b k (c.SpellsHead.condition {x = y} e l) = ap (λ z. heading.Condition z) (one_spelling ns OPERAND ws x y k.1 l.1)
one_condition m ns ws x h b k (c.SpellsHead.conclusion e l) = absurd (let q : true ≡ false = sym e ∙ b in cc q)

one_conclusion : (m : Lists) (ns : Names) (t : Lexeme) (ws : List Lexeme) (h : Heading) → is_equals t.class ≡ true → SpellsHead m ns (t ∷ ws) h → heading.Conclusion (concluded m ws) ≡ h
one_conclusion m ns t ws h e (c.SpellsHead.condition b k) = absurd (let q : true ≡ false = sym e ∙ b in cc q)
one_conclusion m ns t ws h e (c.SpellsHead.conclusion b k) = refl

pub one_head : (m : Lists) (ns : Names) (ws : List Lexeme) (g h : Heading) → SpellsHead m ns ws g → SpellsHead m ns ws h → g ≡ h
one_head m ns ws g h (c.SpellsHead.condition {x = x} b k) s = one_condition m ns ws x h b k s
one_head m ns ws g h (c.SpellsHead.conclusion {t = t} {ws = vs} e k) s = one_conclusion m ns t vs h e s

pub one_head_cell : (m : Lists) (ns : Names) (cell : List ℕ) (g h : Heading) → IsHeadCell m ns cell g → IsHeadCell m ns cell h → g ≡ h
one_head_cell m ns = one_of_cell (SpellsHead m ns) (one_head m ns)

-- ---- comparisons

pub literal_so : (ns : Names) (ws : List Lexeme) (o : Option Reading) → are_literal ws ≡ true → Says (IsOperand ns ws) o → Says (IsLiteral ns ws) o
literal_so ns ws None e none = λ x h. none x h.1
literal_so ns ws (Some x) e h = (e, h)

-- a literal begins with no sign
literal_unsigned : (t : Lexeme) (ws : List Lexeme) (k : OpKind) → are_literal (t ∷ ws) ≡ true → sign_of t.class ≡ Some k → ⊥
literal_unsigned t [] k a s = by t.class a s
  where
    by : (d : Class) → is_literal_class d ≡ true → sign_of d ≡ Some k → ⊥
    by (class.Compare j) p q = absurd (cc p)
    by class.Number p q = absurd (cc q)
    by class.Date p q = absurd (cc q)
    by class.Text p q = absurd (cc q)
    by class.True p q = absurd (cc q)
    by class.False p q = absurd (cc q)
    by class.Uncertain p q = absurd (cc q)
    by d p q = absurd (cc p)
literal_unsigned t (u ∷ ws) k a s = by t.class a s
  where
    by : (d : Class) → ((is_minus d && is_number u.class) && is_none ws) ≡ true → sign_of d ≡ Some k → ⊥
    by class.Minus p q = absurd (cc q)
    by d p q = absurd (cc p)

abbrev comparing : OpKind → Reading → Test
comparing k x = test.Compares k x

pub no_test : (ns : Names) (t : Test) → SpellsTest ns [] t → ⊥
no_test ns t (c.SpellsTest.equals l) = let e : false ≡ true = l.0 in absurd (cc e)

unsigned_test : (ns : Names) (w : Lexeme) (ws : List Lexeme) (t : Test) → sign_of w.class ≡ None → SpellsTest ns (w ∷ ws) t → (x : Reading) × IsLiteral ns (w ∷ ws) x × (comparing op.Eq x ≡ t)
unsigned_test ns w ws t s (c.SpellsTest.equals {x = x} l) = (x, l, refl)
unsigned_test ns w ws t s (c.SpellsTest.compares k e l) = absurd (let q : Some k ≡ None = sym e ∙ s in cc q)

signed_test : (ns : Names) (w : Lexeme) (ws : List Lexeme) (t : Test) (k : OpKind) → sign_of w.class ≡ Some k → SpellsTest ns (w ∷ ws) t → (x : Reading) × IsLiteral ns ws x × (comparing k x ≡ t)
signed_test ns w ws t k s (c.SpellsTest.equals l) = absurd (literal_unsigned w ws k l.0 s)
signed_test ns w ws t k s (c.SpellsTest.compares {x = x} j e l) = (x, l, ap (λ y. comparing y x) (let q : Some k ≡ Some j = sym s ∙ e in let r : k ≡ j = cc q in r))

pub tests_equal : (ns : Names) (all : List Lexeme) (w : Lexeme) (ws : List Lexeme) (x : Option Reading) (o : Option Test) → all ≡ w ∷ ws → sign_of w.class ≡ None → Says (IsLiteral ns all) x
    → o ≡ option_map (λ y. test.Compares op.Eq y) x → Says (SpellsTest ns all) o
tests_equal ns all w ws None o e s l f = subst (Says (SpellsTest ns all)) (sym f) (λ t h. let u = unsigned_test ns w ws t s (subst (λ v. SpellsTest ns v t) e h) in l u.0 (subst (λ v. IsLiteral ns v u.0) (sym e) u.1))
tests_equal ns all w ws (Some x) o e s l f = subst (Says (SpellsTest ns all)) (sym f) (c.SpellsTest.equals l)

pub tests_signed : (ns : Names) (all : List Lexeme) (w : Lexeme) (ws : List Lexeme) (k : OpKind) (x : Option Reading) (o : Option Test) → all ≡ w ∷ ws → sign_of w.class ≡ Some k → Says (IsLiteral ns ws) x
    → o ≡ option_map (λ y. test.Compares k y) x → Says (SpellsTest ns all) o
tests_signed ns all w ws k None o e s l f = subst (Says (SpellsTest ns all)) (sym f) (λ t h. let u = signed_test ns w ws t k s (subst (λ v. SpellsTest ns v t) e h) in l u.0 u.1)
tests_signed ns all w ws k (Some x) o e s l f = subst (Says (SpellsTest ns all)) (sym f) (subst (λ v. SpellsTest ns v (test.Compares k x)) (sym e) (c.SpellsTest.compares k s l))

one_signed : (ns : Names) (ws : List Lexeme) (k : OpKind) (x y : Reading) → IsLiteral ns ws x → IsLiteral ns ws y → comparing k x ≡ comparing k y
one_signed ns ws k x y a b = ap (λ z. comparing k z) (one_spelling ns OPERAND ws x y a.1 b.1)

one_equal : (ns : Names) (ws : List Lexeme) (x : Reading) (t : Test) → IsLiteral ns ws x → SpellsTest ns ws t → comparing op.Eq x ≡ t
one_equal ns ws x t l (c.SpellsTest.equals {x = y} k) = one_signed ns ws op.Eq x y l k
one_equal ns ws x t l (c.SpellsTest.compares {t = w} {ws = vs} k e j) = absurd (literal_unsigned w vs k l.0 e)

pub one_test : (ns : Names) (ws : List Lexeme) (s t : Test) → SpellsTest ns ws s → SpellsTest ns ws t → s ≡ t
one_test ns ws s t (c.SpellsTest.equals {x = x} l) h = one_equal ns ws x t l h
one_test ns ws s t (c.SpellsTest.compares {t = w} {ws = vs} {x = x} k e l) h = let u = signed_test ns w vs t k e h in one_signed ns vs k x u.0 l u.1 ∙ u.2

-- ---- condition cells

-- a cell without bytes has no words
no_bytes : (ws : List Lexeme) → IsCell [] ws → ws ≡ []
no_bytes ws h = h.words_are ∙ ap (lexemes []) (one_cut_holds 0 (chars []) h.tokens [] h.cut (subst (λ cs. w.Cuts 0 cs []) (sym chars-nil) w.Cuts.ends))

no_filled : (ns : Names) (ws : List Lexeme) (t : Test) → IsCell [] ws → SpellsTest ns ws t → ⊥
no_filled ns ws t is s = no_test ns t (subst (λ v. SpellsTest ns v t) (no_bytes ws is) s)

filled_of : (ns : Names) (b : ℕ) (bs : List ℕ) (t : Test) → IsConditionCell ns (b ∷ bs) t → OfCell (SpellsTest ns) (b ∷ bs) t
filled_of ns b bs t (c.IsConditionCell.filled {ws = ws} is s) = (ws, is, s)

pub filled_says : (ns : Names) (cell : List ℕ) (o : Option Test) → (cell ≡ [] → ⊥) → Says (OfCell (SpellsTest ns) cell) o → Says (IsConditionCell ns cell) o
filled_says ns [] o some h = absurd (some refl)
filled_says ns (b ∷ bs) None some h = λ t k. h t (filled_of ns b bs t k)
filled_says ns (b ∷ bs) (Some t) some h = c.IsConditionCell.filled h.1 h.2

one_filled : (ns : Names) (cell : List ℕ) (ws : List Lexeme) (s t : Test) → IsCell cell ws → SpellsTest ns ws s → IsConditionCell ns cell t → s ≡ t
one_filled ns cell ws s t is h c.IsConditionCell.empty = absurd (no_filled ns ws s is h)
one_filled ns cell ws s t is h (c.IsConditionCell.filled {ws = vs} also k) = one_test ns vs s t (subst (λ v. SpellsTest ns v s) (one_cell cell ws vs is also) h) k

one_empty : (ns : Names) (t : Test) → IsConditionCell ns [] t → test.Nothing ≡ t
one_empty ns t c.IsConditionCell.empty = refl
one_empty ns t (c.IsConditionCell.filled {ws = ws} is s) = absurd (no_filled ns ws t is s)

pub one_condition_cell : (ns : Names) (cell : List ℕ) (s t : Test) → IsConditionCell ns cell s → IsConditionCell ns cell t → s ≡ t
one_condition_cell ns cell s t c.IsConditionCell.empty k = one_empty ns t k
one_condition_cell ns cell s t (c.IsConditionCell.filled {ws = ws} is h) k = one_filled ns cell ws s t is h k

-- ---- value cells

one_line : (ns : Names) (ws : List Lexeme) (x y : Reading) → IsLine ns ws x → IsLine ns ws y → x ≡ y
one_line ns ws x y a b = one_spelling ns LINE ws x y a.1 b.1

pub one_value_cell : (ns : Names) (cell : List ℕ) (x y : Reading) → IsValueCell ns cell x → IsValueCell ns cell y → x ≡ y
one_value_cell ns = one_of_cell (IsLine ns) (one_line ns)

-- ---- empty cells, and the word of the last record

pub empty_cell : (ns : Names) (cell : List ℕ) → (length cell == 0) ≡ true → IsConditionCell ns cell test.Nothing
empty_cell ns [] e = c.IsConditionCell.empty
empty_cell ns (b ∷ bs) e = absurd (let q : (length (b ∷ bs) == 0) ≡ false = grind arith in let r : true ≡ false = sym e ∙ q in cc r)

pub some_bytes : (cell : List ℕ) → (length cell == 0) ≡ false → cell ≡ [] → ⊥
some_bytes [] e p = let q : true ≡ false = e in absurd (cc q)
some_bytes (b ∷ bs) e p = absurd (cc p)

pub otherwise_by : (cell : List ℕ) (ws : List Lexeme) (b : Bool) → IsCell cell ws → b ≡ is_otherwise ws → IsTrue b ↔ IsOtherwiseCell cell
otherwise_by cell ws b is e = (λ t. (ws, is, sym e ∙ t), λ k. e ∙ ap is_otherwise (one_cell cell ws k.0 is k.1) ∙ k.2)

pub otherwise_none : (cell : List ℕ) → ((ws : List Lexeme) → IsCell cell ws → ⊥) → IsTrue false ↔ IsOtherwiseCell cell
otherwise_none cell none = (λ t. absurd (let q : false ≡ true = t in cc q), λ k. absurd (none k.0 k.1))
