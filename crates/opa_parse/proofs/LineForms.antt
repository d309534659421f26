-- The tree that a line says has the form of a part, and isn't too deep.
use Rattle.std.proofs.Common.{◌≡◌, ℕ, zero, suc, drop, ℤ, pos, negsuc, ◌+◌, ◌/◌, ◌%◌, ◌==◌, ◌≤◌, nat_le, List, [], ◌∷◌, ◌++◌, length, map, Bool, true, false, ◌&&◌, cond, if◌then◌else◌, Option, Some, None, slice_get, option_map, refl, sym, ap, subst, ◌∙◌, eq-eqb, arith}
use Rattle.std.proofs.lemmas.List.{length-map}
use Rattle.opa_value.specs.declared.value.Value.{Value}
use Rattle.opa_value.specs.declared.value.Value.TheVariants as value
use Rattle.opa_model.specs.declared.ids.AttrId.{AttrId}
use Rattle.opa_model.specs.declared.ids.RelId.{RelId}
use Rattle.opa_tree.specs.declared.kinds.OpKind.{OpKind}
use Rattle.opa_tree.specs.declared.kinds.OpKind.TheVariants as op
use Rattle.opa_tree.specs.declared.kinds.Quant.{Quant}
use Rattle.opa_tree.specs.declared.kinds.Quant.TheVariants as quant
use Rattle.opa_tree.specs.declared.kinds.WinKind.{WinKind}
use Rattle.opa_tree.specs.declared.expr.Expr.{Expr}
use Rattle.opa_tree.specs.declared.expr.Expr.TheVariants as expr
use Rattle.opa_tree.specs.Trees.{is_literal, op_arity, quant_arity, window_arity, parts_have_form, has_form}
use Rattle.opa_tree.proofs.FormLaws.{form-Const, form-Attr, form-All, form-Any, form-Not, form-Op, form-Certain, form-Known, form-Over, form-Window, form-Rolling}
use Rattle.opa_sentence.specs.declared.functions.Argument.{Argument}
use Rattle.opa_sentence.specs.declared.functions.Argument.TheVariants as argument
use Rattle.opa_sentence.specs.declared.functions.Function.{Function}
use Rattle.opa_sentence.specs.declared.functions.Function.TheVariants as function
use Rattle.opa_sentence.specs.declared.measure.Measure.{Measure}
use Rattle.opa_sentence.specs.declared.names.Names.{Names}
use Rattle.opa_sentence.specs.declared.names.Operand.{Operand}
use Rattle.opa_sentence.specs.declared.names.Relation.{Relation}
use Rattle.opa_sentence.specs.declared.names.Relation.TheVariants as relation
use Rattle.opa_sentence.specs.declared.names.Member.{Member}
use Rattle.opa_sentence.specs.declared.reading.Reading.{Reading}
use Rattle.opa_sentence.specs.declared.reading.Parts.{Parts}
use Rattle.opa_sentence.specs.declared.reading.Arguments.{Arguments}
use Rattle.opa_sentence.specs.Functions.{argument_at, function_named}
use Rattle.std.specs.Prelude.{codes}
use Rattle.std.specs.Str.{bytes_eq}
use Rattle.std.proofs.lemmas.Bool.{and_from}
use Rattle.opa_words.specs.declared.kinds.Token.{Token}
use Rattle.opa_words.specs.declared.kinds.TokenKind.{TokenKind}
use Rattle.opa_words.specs.declared.kinds.TokenKind.TheVariants as kind
use Rattle.opa_words.specs.Places.{token_text}
use Rattle.opa_sentence.specs.declared.class.Class.{Class}
use Rattle.opa_sentence.specs.declared.class.Class.TheVariants as class
use Rattle.opa_sentence.specs.Lexemes.{Lexeme, lexemes, class_of, word_class, symbol_class, function_class}
use Rattle.opa_sentence.specs.Phrases.{longest, past_words, is_word, is_wordlike}
use Rattle.opa_words.specs.Quoted.{unquoted}
use Rattle.opa_sentence.specs.Table.{relation_at, relation_found, past_found}
use Rattle.opa_sentence.specs.Measures.{Bounds}
use Rattle.opa_sentence.specs.Readings as says
use Rattle.opa_sentence.specs.Readings.{with_tree, but_last, kept, days, days_of_count, days_of_size}
use Rattle.opa_sentence.specs.Grammar.{Part, Spells, SpellsMore, SpellsArgument, SpellsArguments}
use Rattle.opa_sentence.specs.Grammar as g
use Rattle.opa_sentence.proofs.Calendar.{dates_are_literals}
use Rattle.opa_parse.proofs.CallLines.{lines_before, lines_in, step, complete, none_before, line_last}

-- ---- tests

-- ---- trees and lists of trees

-- a tree has its form at the top of a rule and below, where there is one
abbrev pub Form : Option Expr → Type 0
Form None = Unit {0}
Form (Some e) = (top : Bool) → has_form e top ≡ true

abbrev pub formed : List Expr → Bool
formed es = parts_have_form (map has_form es)

-- so many trees have it, where there are trees
abbrev pub Forms : ℕ → Option (List Expr) → Type 0
Forms n None = Unit {0}
Forms n (Some es) = (length es ≡ n) × (formed es ≡ true)

pub formed_last : (es : List Expr) (e : Expr) → formed es ≡ true → has_form e false ≡ true → formed (es ++ e ∷ []) ≡ true
formed_last [] e h k = and_from (has_form e false) true k refl
formed_last (x ∷ es) e h k = and_from (has_form x false) (formed (es ++ e ∷ [])) (left (has_form x false) (formed es) h) (formed_last es e (right (has_form x false) (formed es) h) k)
  where
    left : (a b : Bool) → (a && b) ≡ true → a ≡ true
    left true b p = refl
    left false b p = absurd (cc p)

    right : (a b : Bool) → (a && b) ≡ true → b ≡ true
    right true b p = p
    right false b p = absurd (cc p)

pub length_last : (es : List Expr) (e : Expr) → length (es ++ e ∷ []) ≡ length es + 1
length_last [] e = omega arith
length_last (x ∷ es) e = omega (arith, length_last es e)

with_forms : (n : ℕ) (ts : Option (List Expr)) (t : Option Expr) → Forms n ts → Form t → Forms (n + 1) (with_tree ts t)
with_forms n None t h k = tt
with_forms n (Some es) None h k = tt
with_forms n (Some es) (Some e) h k = (length_last es e ∙ ap (λ x. x + 1) h.0, formed_last es e h.1 (k false))

-- ---- forms of trees over others

abbrev pub OfForm : ℕ → (List Expr → Expr) → Type 0
OfForm n f = (es : List Expr) → length es ≡ n → formed es ≡ true → (top : Bool) → has_form (f es) top ≡ true

abbrev pub KeepsForm : (Expr → Expr) → Type 0
KeepsForm f = (e : Expr) → ((top : Bool) → has_form e top ≡ true) → (top : Bool) → has_form (f e) top ≡ true

pub below : (top : Bool) (f h : Bool → Bool) → f ≡ h → h top ≡ true → f top ≡ true
below top f h e k = ap (λ (x : Bool → Bool). x top) e ∙ k

many : (n : ℕ) → 2 ≤ n → nat_le 2 n ≡ true
many n h = grind (arith, h)

pub all_form : (n : ℕ) → 2 ≤ n → OfForm n (λ es. expr.All es)
all_form n h es e k top = below top _ _ (form-All es) (and_from (nat_le 2 (length (map has_form es))) (formed es) (ap (nat_le 2) (length-map es has_form ∙ e) ∙ many n h) k)

pub any_form : (n : ℕ) → 2 ≤ n → OfForm n (λ es. expr.Any es)
any_form n h es e k top = below top _ _ (form-Any es) (and_from (nat_le 2 (length (map has_form es))) (formed es) (ap (nat_le 2) (length-map es has_form ∙ e) ∙ many n h) k)

pub op_form : (o : OpKind) → OfForm (op_arity o) (λ es. expr.Op o es)
op_form o es e k top = below top _ _ (form-Op o es) (and_from (length (map has_form es) == op_arity o) (formed es) (eq-eqb (length (map has_form es)) (op_arity o) (length-map es has_form ∙ e)) k)

pub listed_form : (q : Quant) (r : RelId) → OfForm (quant_arity q) (λ es. expr.Over q r es)
listed_form q r es e k top = below top _ _ (form-Over q r es) (and_from (length (map has_form es) == quant_arity q) (formed es) (eq-eqb (length (map has_form es)) (quant_arity q) (length-map es has_form ∙ e)) k)

window_form : (w : WinKind) → OfForm (window_arity w) (λ es. expr.Window w es)
window_form w es e k top = below top _ _ (form-Window w es) (and_from (length (map has_form es) == window_arity w) (formed es) (eq-eqb (length (map has_form es)) (window_arity w) (length-map es has_form ∙ e)) k)

pub not_form : KeepsForm (λ e. expr.Not e)
not_form e h top = below top _ _ (form-Not e) (h false)

certain_form : KeepsForm (λ e. expr.Certain e)
certain_form e h top = below top _ _ (form-Certain e) (h false)

known_form : KeepsForm (λ e. expr.Known e)
known_form e h top = below top _ _ (form-Known e) (h false)

size_within : (n : ℕ) (b : Bool) → (nat_le n 366_000_000 ≡ true → b ≡ true → n / 10_000 ≤ 36600)
size_within n b h k = grind (arith, h)

days_at : (n : ℕ) (a b : Bool) → a ≡ (n % 10_000 == 0) → b ≡ nat_le n 366_000_000 → nat_le (if a && b then n / 10_000 else 0) 36600 ≡ true
days_at n false b p q = refl
days_at n true false p q = refl
days_at n true true p q = let h : n / 10_000 ≤ 36600 = size_within n true (sym q) refl in grind (arith, h)

days_of_count_within : (n : ℤ) → nat_le (days_of_count n) 36600 ≡ true
days_of_count_within (pos n) = days_at n (n % 10_000 == 0) (nat_le n 366_000_000) refl refl
days_of_count_within (negsuc n) = refl

days_within : (n : Option ℤ) → nat_le (days n) 36600 ≡ true
days_within None = refl
days_within (Some n) = days_of_count_within n

rolling_form : (always : Bool) (n : Option ℤ) → KeepsForm (λ e. expr.Rolling always (days n) e)
rolling_form always n e h top = below top _ _ (form-Rolling always (days n) e) (and_from (nat_le (days n) 36600) (has_form e false) (days_within n) (h false))

module _ (b : Bounds) where
  kept_form : (m : Measure) (t : Option Expr) → Form t → Form (kept b m t)
  kept_form m t h = go (b.keeps m)
    where
      go : (k : Bool) → Form (if k then t else None)
      go true = h
      go false = tt

  kept_forms : (n : ℕ) (m : Measure) (ts : Option (List Expr)) → Forms n ts → Forms n (kept b m ts)
  kept_forms n m ts h = go (b.keeps m)
    where
      go : (k : Bool) → Forms n (if k then ts else None)
      go true = h
      go false = tt

  raised_form : (n : ℕ) (f : List Expr → Expr) (ts : Option (List Expr)) → OfForm n f → Forms n ts → Form (option_map f ts)
  raised_form n f None of h = tt
  raised_form n f (Some es) of h = of es h.0 h.1

  pub over_form : (n : ℕ) (f : List Expr → Expr) (p : Parts) → OfForm n f → Forms n p.trees → Form (says.over b f p).tree
  over_form n f p of h = raised_form n f (kept b (says.over b f p).measure p.trees) of (kept_forms n (says.over b f p).measure p.trees h)

  mapped_form : (f : Expr → Expr) (t : Option Expr) → KeepsForm f → Form t → Form (option_map f t)
  mapped_form f None keeps h = tt
  mapped_form f (Some e) keeps h = keeps e h

  pub one_form : (f : Expr → Expr) (r : Reading) → KeepsForm f → Form r.tree → Form (says.one b f r).tree
  one_form f r keeps h = mapped_form f (kept b (says.one b f r).measure r.tree) keeps (kept_form (says.one b f r).measure r.tree h)

  pub with_part_forms : (n : ℕ) (p : Parts) (r : Reading) → Forms n p.trees → Form r.tree → Forms (n + 1) (says.with_part b p r).trees
  with_part_forms n p r h k = kept_forms (n + 1) (says.with_part b p r).measure (with_tree p.trees r.tree) (with_forms n p.trees r.tree h k)

  none_forms : Forms 0 (says.no_parts b).trees
  none_forms = (refl, refl)

  pub one_part_forms : (r : Reading) → Form r.tree → Forms 1 (says.one_part b r).trees
  one_part_forms r h = with_part_forms 0 (says.no_parts b) r none_forms h

  two_parts_forms : (q r : Reading) → Form q.tree → Form r.tree → Forms 2 (says.two_parts b q r).trees
  two_parts_forms q r h k = with_part_forms 1 (says.one_part b q) r (one_part_forms q h) k

  nested_form : (r : Reading) → Form r.tree → Form (says.nested b r).tree
  nested_form r h = kept_form (says.nested b r).measure r.tree h

  pub denial_form : (r : Reading) → Form r.tree → Form (says.denial b r).tree
  denial_form r h = one_form (λ e. expr.Not e) r not_form h

  literal_form : (v : Value) → is_literal v ≡ true → Form (says.literal b v).tree
  literal_form v h = kept_form (says.literal_measure b v) (Some (expr.Const v)) (λ top. below top _ _ (form-Const v) h)

  attribute_form : (a : AttrId) → Form (says.attribute b a).tree
  attribute_form a = kept_form (says.attribute b a).measure (Some (expr.Attr a)) (λ top. below top _ _ (form-Attr a) refl)

  operand_by : (a : AttrId) (d : Bool) → Form (cond d (says.denial b (says.attribute b a)) (says.attribute b a)).tree
  operand_by a true = denial_form (says.attribute b a) (attribute_form a)
  operand_by a false = attribute_form a

  operand_form : (o : Option Operand) → Form (says.operand b o).tree
  operand_form None = tt
  operand_form (Some o) = operand_by o.attr o.denied

  operation_form : (o : OpKind) (p : Parts) → Forms (op_arity o) p.trees → Form (says.operation b o p).tree
  operation_form o p h = over_form (op_arity o) (λ es. expr.Op o es) p (op_form o) h

  pub listed_parts : (q : Quant) (r : RelId) (p : Parts) → Forms (quant_arity q) p.trees → Form (says.listed b q r p).tree
  listed_parts q r p h = over_form (quant_arity q) (λ es. expr.Over q r es) p (listed_form q r) h

  pub all_parts : (n : ℕ) (p : Parts) → 2 ≤ n → Forms n p.trees → Form (says.all b p).tree
  all_parts n p h k = over_form n (λ es. expr.All es) p (all_form n h) k

  pub any_parts : (n : ℕ) (p : Parts) → 2 ≤ n → Forms n p.trees → Form (says.any b p).tree
  any_parts n p h k = over_form n (λ es. expr.Any es) p (any_form n h) k

  -- ---- calls

  abbrev FormEach : List Reading → Type 0
  FormEach [] = Unit {0}
  FormEach (r ∷ rs) = Form r.tree × FormEach rs

  each_more : (rs : List Reading) (x : Reading) → FormEach rs → Form x.tree → FormEach (rs ++ x ∷ [])
  each_more [] x h k = (k, tt)
  each_more (r ∷ rs) x h k = (h.0, each_more rs x h.1 k)

  last_form : (rs : List Reading) → FormEach rs → Form (says.last_line b rs).tree
  last_form [] h = tt
  last_form (r ∷ []) h = h.0
  last_form (r ∷ s ∷ rs) h = last_form (s ∷ rs) h.1

  but_last_form : (rs : List Reading) → FormEach rs → FormEach (but_last rs)
  but_last_form [] h = tt
  but_last_form (r ∷ []) h = tt
  but_last_form (r ∷ s ∷ rs) h = (h.0, but_last_form (s ∷ rs) h.1)

  gathered_forms : (n : ℕ) (p : Parts) (rs : List Reading) → Forms n p.trees → FormEach rs → Forms (n + length rs) (says.gathered b p rs).trees
  gathered_forms n p [] h k = subst (λ x. Forms x p.trees) (let e : n ≡ n + 0 = omega arith in e) h
  gathered_forms n p (r ∷ rs) h k =
      subst (λ x. Forms x (says.gathered b (says.with_part b p r) rs).trees) (let e : (n + 1) + length rs ≡ n + length (r ∷ rs) = omega arith in e)
      (gathered_forms (n + 1) (says.with_part b p r) rs (with_part_forms n p r h k.0) k.1)

  lines_forms : (n : ℕ) (rs : List Reading) → length rs ≡ n → FormEach rs → Forms n (says.lines b rs).trees
  lines_forms n rs e h = subst (λ x. Forms x (says.lines b rs).trees) (let f : 0 + length rs ≡ n = omega (arith, e) in f) (gathered_forms 0 (says.no_parts b) rs none_forms h)

  -- a member's tree has its form
  abbrev pub MemberForm : Member → Type 0
  MemberForm m = (top : Bool) → has_form m.expr top ≡ true

  membership_form : (m : Member) → MemberForm m → Form (says.membership b m).tree
  membership_form m h = kept_form (says.member_measure b m) (Some m.expr) h

  met : (m : Member) (rs : List Reading) → MemberForm m → FormEach rs → Form (says.all b (says.two_parts b (says.membership b m) (says.last_line b rs))).tree
  met m rs h k = all_parts 2 (says.two_parts b (says.membership b m) (says.last_line b rs)) (omega arith) (two_parts_forms (says.membership b m) (says.last_line b rs) (membership_form m h) (last_form rs k))

  unmet : (m : Member) (rs : List Reading) → MemberForm m → FormEach rs → Form (says.any b (says.two_parts b (says.denial b (says.membership b m)) (says.last_line b rs))).tree
  unmet m rs h k =
      any_parts 2 (says.two_parts b (says.denial b (says.membership b m)) (says.last_line b rs)) (omega arith)
      (two_parts_forms (says.denial b (says.membership b m)) (says.last_line b rs) (denial_form (says.membership b m) (membership_form m h)) (last_form rs k))

  over_members_form : (q : Quant) (m : Member) (rs : List Reading) → MemberForm m → FormEach rs → Form (says.over_members b q m rs).tree
  over_members_form quant.ForAll m rs h k = listed_parts quant.ForAll m.every _ (one_part_forms (says.any b (says.two_parts b (says.denial b (says.membership b m)) (says.last_line b rs))) (unmet m rs h k))
  over_members_form quant.Exists m rs h k = listed_parts quant.Exists m.every _ (one_part_forms (says.all b (says.two_parts b (says.membership b m) (says.last_line b rs))) (met m rs h k))
  over_members_form quant.Count m rs h k = listed_parts quant.CountIf m.every _ (one_part_forms (says.membership b m) (membership_form m h))
  over_members_form quant.CountIf m rs h k = listed_parts quant.CountIf m.every _ (one_part_forms (says.all b (says.two_parts b (says.membership b m) (says.last_line b rs))) (met m rs h k))
  over_members_form quant.Sum m rs h k = listed_parts quant.SumIf m.every _ (two_parts_forms (says.last_line b rs) (says.membership b m) (last_form rs k) (membership_form m h))
  over_members_form quant.SumIf m rs h k =
      listed_parts quant.SumIf m.every _ (two_parts_forms (says.last_line b (but_last rs)) (says.all b (says.two_parts b (says.membership b m) (says.last_line b rs))) (last_form (but_last rs) (but_last_form rs k)) (met m rs h k))
  over_members_form quant.For m rs h k = tt
  over_members_form quant.Maximum m rs h k = tt
  over_members_form quant.Minimum m rs h k = tt

  over_found_form : (q : Quant) (o : Option Member) (rs : List Reading) → ((m : Member) → o ≡ Some m → MemberForm m) → FormEach rs → Form (says.over_found b q o rs).tree
  over_found_form q None rs h k = tt
  over_found_form q (Some m) rs h k = over_members_form q m rs (h m refl) k

  abbrev pub MembersForm : List Member → Type 0
  MembersForm ms = (n : ℕ) (m : Member) → slice_get ms n ≡ Some m → MemberForm m

  over_relation_form : (ms : List Member) (q : Quant) (r : Relation) (rs : List Reading) → MembersForm ms → length rs ≡ quant_arity q → FormEach rs → Form (says.over_relation b ms q r rs).tree
  over_relation_form ms q (relation.Declared r) rs h e k = listed_parts q r (says.lines b rs) (lines_forms (quant_arity q) rs e k)
  over_relation_form ms q (relation.Inferred n) rs h e k = over_found_form q (slice_get ms n) rs (λ m at. h n m at) k
  over_relation_form ms q relation.Unnamed rs h e k = tt

  pub head_relation_form : (ms : List Member) (q : Quant) (r : Relation) (x : Reading) → MembersForm ms → quant_arity q ≡ 1 → Form x.tree → Form (says.over_relation b ms q r (x ∷ [])).tree
  head_relation_form ms q r x h e k = over_relation_form ms q r (x ∷ []) h (sym e) (k, tt)

  written_form : (n : Option ℤ) → Form (says.written b n).tree
  written_form None = tt
  written_form (Some n) = literal_form (value.Num n) refl

-- ---- calls

module _ (b : Bounds) (ms : List Member) (members : MembersForm b ms) where
  called_form : (f : Function) (a : Arguments) → FormEach b a.lines → length a.lines ≡ lines_in f → Form (says.called b ms f a).tree
  called_form (function.Op op.Round) a h e = operation_form b op.Round (says.with_part b (says.lines b a.lines) (says.written b a.number)) (with_part_forms b 1 (says.lines b a.lines) (says.written b a.number) (lines_forms b 1 a.lines e h) (written_form b a.number))
  called_form (function.Op k) a h e = operation_form b k (says.lines b a.lines) (lines_forms b (op_arity k) a.lines e h)
  called_form function.Certain a h e = one_form b (λ x. expr.Certain x) (says.last_line b a.lines) certain_form (last_form b a.lines h)
  called_form function.Known a h e = one_form b (λ x. expr.Known x) (says.last_line b a.lines) known_form (last_form b a.lines h)
  called_form (function.Over q) a h e = over_relation_form b ms q a.relation a.lines members e h
  called_form (function.Window k) a h e = over_form b (window_arity k) (λ es. expr.Window k es) (says.lines b a.lines) (window_form k) (lines_forms b (window_arity k) a.lines e h)
  called_form (function.Rolling always) a h e = one_form b (λ x. expr.Rolling always (days a.number) x) (says.last_line b a.lines) (rolling_form always a.number) (last_form b a.lines h)

-- ---- tokens that are what their text is

-- a comparison has two operands
abbrev pub IsReal : Class → Type 0
IsReal (class.Compare k) = op_arity k ≡ 2
IsReal c = Unit {0}

abbrev pub AreReal : List Lexeme → Type 0
AreReal [] = Unit {0}
AreReal (t ∷ ts) = IsReal t.class × AreReal ts

real_drop : (n : ℕ) (ts : List Lexeme) → AreReal ts → AreReal (drop n ts)
real_drop zero ts h = h
real_drop (suc n) [] h = h
real_drop (suc n) (t ∷ ts) h = real_drop n ts h.1

pub real_past : (ts : List Lexeme) → AreReal ts → AreReal (past_words ts)
real_past [] h = h
real_past (t ∷ ts) h = at (is_wordlike t.class) (real_past ts h.1)
  where
    at : (k : Bool) → AreReal (past_words ts) → AreReal (if k then past_words ts else t ∷ ts)
    at true p = p
    at false p = h

real_found : (ts : List Lexeme) (o : Option (ℕ × ℕ)) → AreReal ts → AreReal (past_found ts o)
real_found ts None h = real_past ts h
real_found ts (Some x) h = real_drop x.1 ts h

real_relation : (ns : Names) (ts : List Lexeme) (x : Relation × List Lexeme) → relation_at ns ts ≡ Some x → AreReal ts → AreReal x.1
real_relation ns [] x e h = absurd (cc e)
real_relation ns (t ∷ ts) x e h = at (is_word t.class) e
  where
    at : (k : Bool) → (if k then Some (relation_found ns (longest ns.relations (t ∷ ts)), past_found (t ∷ ts) (longest ns.relations (t ∷ ts))) else None) ≡ Some x → AreReal x.1
    at true p =
        let found : Relation × List Lexeme = (relation_found ns (longest ns.relations (t ∷ ts)), past_found (t ∷ ts) (longest ns.relations (t ∷ ts))) in
        let same : found ≡ x = cc p in
        subst (λ (y : Relation × List Lexeme). AreReal y.1) same (real_found (t ∷ ts) (longest ns.relations (t ∷ ts)) h)
    at false p = absurd (cc p)

compared_arity : (c : Class) (k : OpKind) → c ≡ class.Compare k → IsReal c → op_arity k ≡ 2
compared_arity c k e h = let r : IsReal (class.Compare k) = subst IsReal e h in r

either_real : (k : Bool) (c d : Class) → IsReal c → IsReal d → IsReal (if k then c else d)
either_real true c d p q = p
either_real false c d p q = q

function_real : (o : Option Function) → IsReal (function_class o)
function_real None = tt
function_real (Some f) = tt

word_real : (w : List ℕ) → IsReal (word_class w)
word_real w =
    either_real (bytes_eq w (codes "not")) class.Not _ tt
    (either_real (bytes_eq w (codes "and")) class.And _ tt
    (either_real (bytes_eq w (codes "or")) class.Or _ tt
    (either_real (bytes_eq w (codes "true")) class.True _ tt
    (either_real (bytes_eq w (codes "false")) class.False _ tt
    (either_real (bytes_eq w (codes "uncertain")) class.Uncertain _ tt (function_real (function_named w)))))))

symbol_real : (w : List ℕ) → IsReal (symbol_class w)
symbol_real w =
    either_real (bytes_eq w (codes "(")) class.Open _ tt
    (either_real (bytes_eq w (codes ")")) class.Close _ tt
    (either_real (bytes_eq w (codes ",")) class.Comma _ tt
    (either_real (bytes_eq w (codes "+")) class.Plus _ tt
    (either_real (bytes_eq w (codes "-")) class.Minus _ tt
    (either_real (bytes_eq w (codes "*")) class.Times _ tt
    (either_real (bytes_eq w (codes "/")) class.Slash _ tt
    (either_real (bytes_eq w (codes "=")) (class.Compare op.Eq) _ refl
    (either_real (bytes_eq w (codes "<>")) (class.Compare op.Ne) _ refl
    (either_real (bytes_eq w (codes "<")) (class.Compare op.Lt) _ refl
    (either_real (bytes_eq w (codes "<=")) (class.Compare op.Le) _ refl
    (either_real (bytes_eq w (codes ">")) (class.Compare op.Gt) _ refl
    (either_real (bytes_eq w (codes ">=")) (class.Compare op.Ge) class.Other refl tt))))))))))))

class_real : (k : TokenKind) (w : List ℕ) → IsReal (class_of k w)
class_real kind.Word w = word_real w
class_real kind.Number w = tt
class_real kind.Date w = tt
class_real kind.Text w = tt
class_real kind.Symbol w = symbol_real w

pub lexemes_real : (text : List ℕ) (ts : List Token) → AreReal (lexemes text ts)
lexemes_real text [] = tt
lexemes_real text (t ∷ ts) = (class_real t.kind (token_text text t), lexemes_real text ts)

-- ---- the grammar

module _ (b : Bounds) (ns : Names) (members : MembersForm b ns.members) where
  between_form : (k : OpKind) → op_arity k ≡ 2 → (x y : Reading) → Form x.tree → Form y.tree → Form (says.between b k x y).tree
  between_form k e x y h i = operation_form b k (says.two_parts b x y) (subst (λ n. Forms n (says.two_parts b x y).trees) (sym e) (two_parts_forms b x y h i))

  negate_form : (x : Reading) → Form x.tree → Form (says.nested b (says.operation b op.Neg (says.one_part b x))).tree
  negate_form x h = nested_form b (says.operation b op.Neg (says.one_part b x)) (operation_form b op.Neg (says.one_part b x) (one_part_forms b x h))

  -- two or more parts have their form
  abbrev Several_forms : Parts → Type 0
  Several_forms p = (n : ℕ) × (2 ≤ n) × Forms n p.trees

  mutual
    pub form_of : {p : Part} {ts : List Lexeme} {x : Reading} {rest : List Lexeme} → Spells b ns p ts x rest → AreReal ts → Form x.tree × AreReal rest
    form_of (g.Spells.one d) = λ r. form_of d r
    form_of (g.Spells.compared {x = x} {y = y} {t = t} k h d f) = λ r.
        let a = form_of d r in
        let c = form_of f a.1.1 in
        (between_form k (compared_arity t.class k h a.1.0) x y a.0 c.0, c.1)
    form_of (g.Spells.term d) = λ r. form_of d r
    form_of (g.Spells.plus {x = x} {y = y} h d f) = λ r. let a = form_of d r in let c = form_of f a.1.1 in (between_form op.Add refl x y a.0 c.0, c.1)
    form_of (g.Spells.less {x = x} {y = y} h d f) = λ r. let a = form_of d r in let c = form_of f a.1.1 in (between_form op.Sub refl x y a.0 c.0, c.1)
    form_of (g.Spells.factor d) = λ r. form_of d r
    form_of (g.Spells.times {x = x} {y = y} h d f) = λ r. let a = form_of d r in let c = form_of f a.1.1 in (between_form op.Mul refl x y a.0 c.0, c.1)
    form_of (g.Spells.over {x = x} {y = y} h d f) = λ r. let a = form_of d r in let c = form_of f a.1.1 in (between_form op.Div refl x y a.0 c.0, c.1)
    form_of (g.Spells.number h n is) = λ r. (literal_form b (value.Num n) refl, r.1)
    form_of (g.Spells.negative h k n is) = λ r. (literal_form b (value.Num n) refl, r.1.1)
    form_of (g.Spells.date {t = t} h d is) = λ r. (literal_form b (value.Day d) (dates_are_literals t.text d is), r.1)
    form_of (g.Spells.text {t = t} h) = λ r. (literal_form b (value.Words (unquoted t.text)) refl, r.1)
    form_of (g.Spells.yes h) = λ r. (literal_form b (value.Bool true) refl, r.1)
    form_of (g.Spells.no h) = λ r. (literal_form b (value.Bool false) refl, r.1)
    form_of (g.Spells.uncertain h) = λ r. (literal_form b value.Uncertain refl, r.1)
    form_of (g.Spells.negate {x = x} h k d) = λ r. let a = form_of d r.1 in (negate_form x a.0, a.1)
    form_of (g.Spells.deny {x = x} h d) = λ r. let a = form_of d r.1 in (nested_form b (says.denial b x) (denial_form b x a.0), a.1)
    form_of (g.Spells.call {a = z} f h k d l) = λ r.
        let a = form_arguments d r.1.1 tt (none_before f) in
        (nested_form b (says.called b ns.members f z) (called_form b ns.members members f z a.0 a.1), a.2.1)
    form_of (g.Spells.brackets {x = x} h d l) = λ r. let a = form_of d r.1 in (nested_form b x a.0, a.1.1)
    form_of (g.Spells.all {x = x} {p = p} h d f l) = λ r.
        let a = form_of d r.1 in
        let c = form_more f a.1 1 (omega arith) (one_part_forms b x a.0) in
        (nested_form b (says.all b p) (all_parts b c.0.0 p c.0.1 c.0.2), c.1.1)
    form_of (g.Spells.any {x = x} {p = p} h d f l) = λ r.
        let a = form_of d r.1 in
        let c = form_more f a.1 1 (omega arith) (one_part_forms b x a.0) in
        (nested_form b (says.any b p) (any_parts b c.0.0 p c.0.1 c.0.2), c.1.1)
    form_of (g.Spells.phrase {t = t} {ts = ts} h i n is) = λ r. (operand_form b (slice_get ns.meanings i), real_drop n (t ∷ ts) r)
    form_of (g.Spells.unnamed {t = t} {ts = ts} h is) = λ r. (tt, real_past (t ∷ ts) r)

    form_more : {j : Bool} {ts : List Lexeme} {p q : Parts} {rest : List Lexeme} → SpellsMore b ns j ts p q rest → AreReal ts → (n : ℕ) → 1 ≤ n → Forms n p.trees → Several_forms q × AreReal rest
    form_more (g.SpellsMore.last {p = p} {x = x} h d) = λ r n o k. let a = form_of d r.1 in ((n + 1, omega (arith, o), with_part_forms b n p x k a.0), a.1)
    form_more (g.SpellsMore.more {p = p} {x = x} h d f) = λ r n o k. let a = form_of d r.1 in form_more f a.1 (n + 1) (omega arith) (with_part_forms b n p x k a.0)

    form_argument : {f : Function} {n : ℕ} {ts : List Lexeme} {a z : Arguments} {rest : List Lexeme} → SpellsArgument b ns f n ts a z rest → AreReal ts → FormEach b a.lines → length a.lines ≡ lines_before f n
        → (x : Argument) × (argument_at f n ≡ Some x) × FormEach b z.lines × (length z.lines ≡ lines_before f (n + 1)) × AreReal rest
    form_argument (g.SpellsArgument.as_line {f = f} {n = n} {a = a} {x = x} h d) = λ r e k.
        let c = form_of d r in
        (argument.Line, h, each_more b a.lines x e c.0, line_last a.lines x ∙ ap (λ y. y + 1) k ∙ sym (step f n argument.Line h), c.1)
    form_argument (g.SpellsArgument.as_relation {f = f} {n = n} {ts = ts} {a = a} h x is) = λ r e k.
        (argument.Relation, h, e, k ∙ (let z : lines_before f n ≡ lines_before f n + 0 = omega arith in z) ∙ sym (step f n argument.Relation h), real_relation ns ts x is r)
    form_argument (g.SpellsArgument.as_number {f = f} {n = n} {a = a} h c z is) = λ r e k.
        (argument.Number, h, e, k ∙ (let z : lines_before f n ≡ lines_before f n + 0 = omega arith in z) ∙ sym (step f n argument.Number h), r.1)

    form_arguments : {f : Function} {n : ℕ} {ts : List Lexeme} {a z : Arguments} {rest : List Lexeme} → SpellsArguments b ns f n ts a z rest → AreReal ts → FormEach b a.lines → length a.lines ≡ lines_before f n
        → FormEach b z.lines × (length z.lines ≡ lines_in f) × AreReal rest
    form_arguments (g.SpellsArguments.last_argument {f = f} {n = n} d h) = λ r e k. let a = form_argument d r e k in (a.2, a.3 ∙ complete f n a.0 a.1 h, a.4)
    form_arguments (g.SpellsArguments.more_arguments d h f) = λ r e k. let a = form_argument d r e k in form_arguments f a.4.1 a.2 a.3
