-- The tree that a line says is one that the grammar gives.
use Rattle.std.proofs.Common.{◌≡◌, ℕ, zero, suc, drop, ℤ, pos, negsuc, ◌+◌, ◌/◌, ◌%◌, ◌==◌, ◌≤◌, nat_le, List, [], ◌∷◌, ◌++◌, length, Bool, true, false, ◌&&◌, cond, if◌then◌else◌, Option, Some, None, slice_get, option_map, refl, sym, ap, subst, ◌∙◌, arith}
use Rattle.opa_value.specs.declared.value.Value.{Value}
use Rattle.opa_value.specs.declared.value.Value.TheVariants as value
use Rattle.opa_value.specs.Numbers.{InRange}
use Rattle.opa_model.specs.declared.ids.AttrId.{AttrId}
use Rattle.opa_model.specs.declared.ids.RelId.{RelId}
use Rattle.opa_model.specs.declared.lists.Lists.{Lists}
use Rattle.opa_model.specs.declared.things.Kind.TheVariants as kinds
use Rattle.opa_model.specs.Models.{HasAttribute, HasRelation}
use Rattle.opa_text.specs.Laws.{CanBeWritten}
use Rattle.opa_tree.specs.declared.kinds.OpKind.{OpKind}
use Rattle.opa_tree.specs.declared.kinds.OpKind.TheVariants as op
use Rattle.opa_tree.specs.declared.kinds.Quant.{Quant}
use Rattle.opa_tree.specs.declared.kinds.Quant.TheVariants as quant
use Rattle.opa_tree.specs.declared.kinds.WinKind.{WinKind}
use Rattle.opa_tree.specs.declared.expr.Expr.{Expr}
use Rattle.opa_tree.specs.declared.expr.Expr.TheVariants as expr
use Rattle.opa_tree.specs.Trees.{is_literal, op_arity, quant_arity, window_arity}
use Rattle.opa_sentence.specs.declared.functions.Argument.{Argument}
use Rattle.opa_sentence.specs.declared.functions.Argument.TheVariants as argument
use Rattle.opa_sentence.specs.declared.functions.Function.{Function}
use Rattle.opa_sentence.specs.declared.functions.Function.TheVariants as function
use Rattle.opa_sentence.specs.declared.class.Class.{Class}
use Rattle.opa_sentence.specs.declared.class.Class.TheVariants as class
use Rattle.opa_sentence.specs.declared.names.Names.{Names}
use Rattle.opa_sentence.specs.declared.names.Operand.{Operand}
use Rattle.opa_sentence.specs.declared.names.Relation.{Relation}
use Rattle.opa_sentence.specs.declared.names.Relation.TheVariants as relation
use Rattle.opa_sentence.specs.declared.names.Member.{Member}
use Rattle.opa_sentence.specs.declared.reading.Reading.{Reading}
use Rattle.opa_sentence.specs.declared.reading.Parts.{Parts}
use Rattle.opa_sentence.specs.declared.reading.Arguments.{Arguments}
use Rattle.opa_sentence.specs.Functions.{argument_at}
use Rattle.opa_sentence.specs.Lexemes.{Lexeme}
use Rattle.opa_sentence.specs.Measures.{Bounds}
use Rattle.opa_sentence.specs.Phrases.{longest, past_words, is_word, is_wordlike}
use Rattle.opa_words.specs.Quoted.{unquoted}
use Rattle.opa_sentence.specs.Readings as says
use Rattle.opa_sentence.specs.Readings.{with_tree, but_last, kept, days, days_of_count}
use Rattle.opa_sentence.specs.Table.{relation_at, relation_found, past_found, related_or_none}
use Rattle.opa_sentence.specs.Grammar.{Part, Spells, SpellsMore, SpellsArgument, SpellsArguments}
use Rattle.opa_sentence.specs.Grammar as g
use Rattle.opa_sentence.proofs.Calendar.{dates_are_literals}
use Rattle.opa_parse.proofs.CallLines.{lines_before, lines_in, step, complete, none_before, line_last}
use Rattle.opa_parse.proofs.LineForms.{length_last}
use Rattle.opa_wording.specs.Grammatical.{is_round, IsGrammatical, AreGrammatical}
use Rattle.opa_wording.specs.Grammatical as tree
use Rattle.opa_wording.proofs.TokensGiven.{number_range, unsigned_count, negative_range, day_range, IsSuch, AreSuch}

-- ---- what holds of a tree, where there is one

abbrev pub Of : {A : Type 0} → (A → Type 0) → Option A → Type 0
Of Q None = Unit {0}
Of Q (Some x) = Q x

pub of_if : {A : Type 0} (Q : A → Type 0) (k : Bool) (o : Option A) → Of Q o → Of Q (if k then o else None)
of_if Q true o h = h
of_if Q false o h = tt

pub of_map : {A B : Type 0} (Q : A → Type 0) (R : B → Type 0) (f : A → B) (o : Option A) → ((x : A) → Q x → R (f x)) → Of Q o → Of R (option_map f o)
of_map Q R f None h q = tt
of_map Q R f (Some x) h q = h x q

-- ---- the days of a rolling function

size_within : (n : ℕ) (b : Bool) → nat_le n 366_000_000 ≡ true → b ≡ true → n / 10_000 ≤ 36600
size_within n b h k = grind (arith, h)

days_at : (n : ℕ) (a b : Bool) → a ≡ (n % 10_000 == 0) → b ≡ nat_le n 366_000_000 → (if a && b then n / 10_000 else 0) ≤ 36600
days_at n false b p q = omega arith
days_at n true false p q = omega arith
days_at n true true p q = size_within n true (sym q) refl

days_of_count_within : (n : ℤ) → days_of_count n ≤ 36600
days_of_count_within (pos n) = days_at n (n % 10_000 == 0) (nat_le n 366_000_000) refl refl
days_of_count_within (negsuc n) = omega arith

days_within : (n : Option ℤ) → days n ≤ 36600
days_within None = omega arith
days_within (Some n) = days_of_count_within n

-- ---- trees over trees

module _ (m : Lists) where
  abbrev pub Given : Option Expr → Type 0
  Given = Of (IsGrammatical m)

  abbrev pub SoMany : ℕ → List Expr → Type 0
  SoMany n es = (length es ≡ n) × AreGrammatical m es

  abbrev pub Gives : ℕ → Option (List Expr) → Type 0
  Gives n = Of (SoMany n)

  pub given_last : (es : List Expr) (e : Expr) → AreGrammatical m es → IsGrammatical m e → AreGrammatical m (es ++ e ∷ [])
  given_last [] e h k = tree.AreGrammatical.one_more e [] k tree.AreGrammatical.none
  given_last (x ∷ es) e (tree.AreGrammatical.one_more _ _ y ys) k = tree.AreGrammatical.one_more x (es ++ e ∷ []) y (given_last es e ys k)

  pub with_gives : (n : ℕ) (ts : Option (List Expr)) (t : Option Expr) → Gives n ts → Given t → Gives (n + 1) (with_tree ts t)
  with_gives n None t h k = tt
  with_gives n (Some es) None h k = tt
  with_gives n (Some es) (Some e) h k = (length_last es e ∙ ap (λ x. x + 1) h.0, given_last es e h.1 k)

  abbrev pub Makes : ℕ → (List Expr → Expr) → Type 0
  Makes n f = (es : List Expr) → SoMany n es → IsGrammatical m (f es)

  abbrev pub Keeps : (Expr → Expr) → Type 0
  Keeps f = (e : Expr) → IsGrammatical m e → IsGrammatical m (f e)

  pub all_made : (n : ℕ) → 2 ≤ n → Makes n (λ es. expr.All es)
  all_made n h es s = tree.IsGrammatical.all es (let l = s.0 in omega (arith, l, h)) s.1

  pub any_made : (n : ℕ) → 2 ≤ n → Makes n (λ es. expr.Any es)
  any_made n h es s = tree.IsGrammatical.any es (let l = s.0 in omega (arith, l, h)) s.1

  op_made : (o : OpKind) → is_round o ≡ false → Makes (op_arity o) (λ es. expr.Op o es)
  op_made o r es s = tree.IsGrammatical.operation o es r s.0 s.1

  pub listed_made : (q : Quant) (r : RelId) → HasRelation m r → Makes (quant_arity q) (λ es. expr.Over q r es)
  listed_made q r has es s = tree.IsGrammatical.over q r es has s.0 s.1

  window_made : (w : WinKind) → Makes (window_arity w) (λ es. expr.Window w es)
  window_made w es s = tree.IsGrammatical.window w es s.0 s.1

  pub not_kept : Keeps (λ e. expr.Not e)
  not_kept e h = tree.IsGrammatical.not e h

  rolling_kept : (always : Bool) (n : Option ℤ) → Keeps (λ e. expr.Rolling always (days n) e)
  rolling_kept always n e h = tree.IsGrammatical.rolling always (days n) e (days_within n) h

  -- a tree, and a number without a sign
  record IsRounding (es : List Expr) : Type 0 where
    pub first : Expr
    pub count : ℕ
    pub is : es ≡ first ∷ expr.Const (value.Num (pos count)) ∷ []
    pub range : InRange (pos count)
    pub given : IsGrammatical m first

  rounded : (es : List Expr) → IsRounding es → IsGrammatical m (expr.Op op.Round es)
  rounded es h = subst (λ xs. IsGrammatical m (expr.Op op.Round xs)) (sym h.is) (tree.IsGrammatical.round h.first h.count h.range h.given)

  -- a relation is declared, and a number has no sign
  abbrev pub IsRelated : Relation → Type 0
  IsRelated (relation.Declared r) = HasRelation m r
  IsRelated r = Unit {0}

  -- a number without a sign, in range
  abbrev IsWhole : ℤ → Type 0
  IsWhole z = (n : ℕ) × (z ≡ pos n) × InRange z

  -- a member's tree is given, and its relation declared
  abbrev pub IsMember : Member → Type 0
  IsMember x = IsGrammatical m x.expr × HasRelation m x.every

  abbrev pub AreMembers : List Member → Type 0
  AreMembers ms = (n : ℕ) (x : Member) → slice_get ms n ≡ Some x → IsMember x

  module _ (b : Bounds) where
    over_given : (n : ℕ) (f : List Expr → Expr) (p : Parts) → Makes n f → Gives n p.trees → Given (says.over b f p).tree
    over_given n f p h s = of_map (SoMany n) (IsGrammatical m) f (kept b (says.over b f p).measure p.trees) h (of_if (SoMany n) (b.keeps (says.over b f p).measure) p.trees s)

    one_given : (f : Expr → Expr) (r : Reading) → Keeps f → Given r.tree → Given (says.one b f r).tree
    one_given f r h s = of_map (IsGrammatical m) (IsGrammatical m) f (kept b (says.one b f r).measure r.tree) h (of_if (IsGrammatical m) (b.keeps (says.one b f r).measure) r.tree s)

    pub with_part_gives : (n : ℕ) (p : Parts) (r : Reading) → Gives n p.trees → Given r.tree → Gives (n + 1) (says.with_part b p r).trees
    with_part_gives n p r h k = of_if (SoMany (n + 1)) (b.keeps (says.with_part b p r).measure) (with_tree p.trees r.tree) (with_gives n p.trees r.tree h k)

    none_gives : Gives 0 (says.no_parts b).trees
    none_gives = (refl, tree.AreGrammatical.none)

    pub one_part_gives : (r : Reading) → Given r.tree → Gives 1 (says.one_part b r).trees
    one_part_gives r h = with_part_gives 0 (says.no_parts b) r none_gives h

    two_parts_give : (q r : Reading) → Given q.tree → Given r.tree → Gives 2 (says.two_parts b q r).trees
    two_parts_give q r h k = with_part_gives 1 (says.one_part b q) r (one_part_gives q h) k

    nested_given : (r : Reading) → Given r.tree → Given (says.nested b r).tree
    nested_given r h = of_if (IsGrammatical m) (b.keeps (says.nested b r).measure) r.tree h

    pub denial_given : (r : Reading) → Given r.tree → Given (says.denial b r).tree
    denial_given r h = one_given (λ e. expr.Not e) r not_kept h

    pub literal_given : (v : Value) → is_literal v ≡ true → CanBeWritten kinds.Number v → Given (says.literal b v).tree
    literal_given v h c = of_if (IsGrammatical m) (b.keeps (says.literal_measure b v)) (Some (expr.Const v)) (tree.IsGrammatical.literal v h c)

    attribute_given : (a : AttrId) → HasAttribute m a → Given (says.attribute b a).tree
    attribute_given a has = of_if (IsGrammatical m) (b.keeps (says.attribute b a).measure) (Some (expr.Attr a)) (tree.IsGrammatical.attribute a has)

    operand_by : (a : AttrId) (d : Bool) → HasAttribute m a → Given (cond d (says.denial b (says.attribute b a)) (says.attribute b a)).tree
    operand_by a true has = denial_given (says.attribute b a) (attribute_given a has)
    operand_by a false has = attribute_given a has

    operand_given : (o : Option Operand) → Of (λ (x : Operand). HasAttribute m x.attr) o → Given (says.operand b o).tree
    operand_given None h = tt
    operand_given (Some o) h = operand_by o.attr o.denied h

    operation_given : (o : OpKind) (p : Parts) → is_round o ≡ false → Gives (op_arity o) p.trees → Given (says.operation b o p).tree
    operation_given o p r h = over_given (op_arity o) (λ es. expr.Op o es) p (op_made o r) h

    pub listed_given : (q : Quant) (r : RelId) (p : Parts) → HasRelation m r → Gives (quant_arity q) p.trees → Given (says.listed b q r p).tree
    listed_given q r p has h = over_given (quant_arity q) (λ es. expr.Over q r es) p (listed_made q r has) h

    pub all_given : (n : ℕ) (p : Parts) → 2 ≤ n → Gives n p.trees → Given (says.all b p).tree
    all_given n p h k = over_given n (λ es. expr.All es) p (all_made n h) k

    pub any_given : (n : ℕ) (p : Parts) → 2 ≤ n → Gives n p.trees → Given (says.any b p).tree
    any_given n p h k = over_given n (λ es. expr.Any es) p (any_made n h) k

    -- ---- rounding

    with_count : (ts : Option (List Expr)) (t : Option Expr) (n : ℕ) → Gives 1 ts → Of (λ (e : Expr). e ≡ expr.Const (value.Num (pos n))) t → InRange (pos n) → Of IsRounding (with_tree ts t)
    with_count None t n h k r = tt
    with_count (Some es) None n h k r = tt
    with_count (Some []) (Some c) n h k r = absurd (let l = h.0 in omega (arith, l))
    with_count (Some (e ∷ [])) (Some c) n (l, tree.AreGrammatical.one_more _ _ y ys) k r = record { first = e; count = n; is = ap (λ x. e ∷ x ∷ []) k; range = r; given = y }
    with_count (Some (e ∷ f ∷ es)) (Some c) n h k r = absurd (let l = h.0 in omega (arith, l))

    round_given : (p : Parts) (z : Option ℤ) → Gives 1 p.trees → Of IsWhole z → Given (says.operation b op.Round (says.with_part b p (says.written b z))).tree
    round_given p z h w = of_map IsRounding (IsGrammatical m) (λ es. expr.Op op.Round es) _ rounded
        (of_if IsRounding (b.keeps (says.operation b op.Round (says.with_part b p (says.written b z))).measure) (says.with_part b p (says.written b z)).trees
        (of_if IsRounding (b.keeps (says.with_part b p (says.written b z)).measure) (with_tree p.trees (says.written b z).tree) (at z w)))
      where
        no_count : (ts : Option (List Expr)) → Of IsRounding (with_tree ts None)
        no_count None = tt
        no_count (Some es) = tt

        at : (z : Option ℤ) → Of IsWhole z → Of IsRounding (with_tree p.trees (says.written b z).tree)
        at None w = no_count p.trees
        at (Some y) w =
            with_count p.trees (says.literal b (value.Num y)).tree w.0 h
            (of_if (λ (e : Expr). e ≡ expr.Const (value.Num (pos w.0))) (b.keeps (says.literal_measure b (value.Num y))) (Some (expr.Const (value.Num y))) (ap (λ x. expr.Const (value.Num x)) w.1))
            (subst InRange w.1 w.2)

    -- ---- calls

    abbrev pub GivenEach : List Reading → Type 0
    GivenEach [] = Unit {0}
    GivenEach (r ∷ rs) = Given r.tree × GivenEach rs

    each_more : (rs : List Reading) (x : Reading) → GivenEach rs → Given x.tree → GivenEach (rs ++ x ∷ [])
    each_more [] x h k = (k, tt)
    each_more (r ∷ rs) x h k = (h.0, each_more rs x h.1 k)

    last_given : (rs : List Reading) → GivenEach rs → Given (says.last_line b rs).tree
    last_given [] h = tt
    last_given (r ∷ []) h = h.0
    last_given (r ∷ s ∷ rs) h = last_given (s ∷ rs) h.1

    but_last_given : (rs : List Reading) → GivenEach rs → GivenEach (but_last rs)
    but_last_given [] h = tt
    but_last_given (r ∷ []) h = tt
    but_last_given (r ∷ s ∷ rs) h = (h.0, but_last_given (s ∷ rs) h.1)

    gathered_give : (n : ℕ) (p : Parts) (rs : List Reading) → Gives n p.trees → GivenEach rs → Gives (n + length rs) (says.gathered b p rs).trees
    gathered_give n p [] h k = subst (λ x. Gives x p.trees) (let e : n ≡ n + 0 = omega arith in e) h
    gathered_give n p (r ∷ rs) h k =
        subst (λ x. Gives x (says.gathered b (says.with_part b p r) rs).trees) (let e : (n + 1) + length rs ≡ n + length (r ∷ rs) = omega arith in e)
        (gathered_give (n + 1) (says.with_part b p r) rs (with_part_gives n p r h k.0) k.1)

    pub lines_give : (n : ℕ) (rs : List Reading) → length rs ≡ n → GivenEach rs → Gives n (says.lines b rs).trees
    lines_give n rs e h = subst (λ x. Gives x (says.lines b rs).trees) (let f : 0 + length rs ≡ n = omega (arith, e) in f) (gathered_give 0 (says.no_parts b) rs none_gives h)

    membership_given : (x : Member) → IsMember x → Given (says.membership b x).tree
    membership_given x h = of_if (IsGrammatical m) (b.keeps (says.member_measure b x)) (Some x.expr) h.0

    met : (x : Member) (r : Reading) → IsMember x → Given r.tree → Given (says.all b (says.two_parts b (says.membership b x) r)).tree
    met x r h k = all_given 2 (says.two_parts b (says.membership b x) r) (omega arith) (two_parts_give (says.membership b x) r (membership_given x h) k)

    unmet : (x : Member) (r : Reading) → IsMember x → Given r.tree → Given (says.any b (says.two_parts b (says.denial b (says.membership b x)) r)).tree
    unmet x r h k = any_given 2 (says.two_parts b (says.denial b (says.membership b x)) r) (omega arith) (two_parts_give (says.denial b (says.membership b x)) r (denial_given (says.membership b x) (membership_given x h)) k)

    over_members_given : (q : Quant) (x : Member) (rs : List Reading) → IsMember x → GivenEach rs → Given (says.over_members b q x rs).tree
    over_members_given quant.ForAll x rs h k = listed_given quant.ForAll x.every _ h.1 (one_part_gives (says.any b (says.two_parts b (says.denial b (says.membership b x)) (says.last_line b rs))) (unmet x (says.last_line b rs) h (last_given rs k)))
    over_members_given quant.Exists x rs h k = listed_given quant.Exists x.every _ h.1 (one_part_gives (says.all b (says.two_parts b (says.membership b x) (says.last_line b rs))) (met x (says.last_line b rs) h (last_given rs k)))
    over_members_given quant.Count x rs h k = listed_given quant.CountIf x.every _ h.1 (one_part_gives (says.membership b x) (membership_given x h))
    over_members_given quant.CountIf x rs h k = listed_given quant.CountIf x.every _ h.1 (one_part_gives (says.all b (says.two_parts b (says.membership b x) (says.last_line b rs))) (met x (says.last_line b rs) h (last_given rs k)))
    over_members_given quant.Sum x rs h k = listed_given quant.SumIf x.every _ h.1 (two_parts_give (says.last_line b rs) (says.membership b x) (last_given rs k) (membership_given x h))
    over_members_given quant.SumIf x rs h k =
        listed_given quant.SumIf x.every _ h.1
        (two_parts_give (says.last_line b (but_last rs)) (says.all b (says.two_parts b (says.membership b x) (says.last_line b rs))) (last_given (but_last rs) (but_last_given rs k)) (met x (says.last_line b rs) h (last_given rs k)))
    over_members_given quant.For x rs h k = tt
    over_members_given quant.Maximum x rs h k = tt
    over_members_given quant.Minimum x rs h k = tt

    over_found_given : (q : Quant) (o : Option Member) (rs : List Reading) → ((x : Member) → o ≡ Some x → IsMember x) → GivenEach rs → Given (says.over_found b q o rs).tree
    over_found_given q None rs h k = tt
    over_found_given q (Some x) rs h k = over_members_given q x rs (h x refl) k

    over_relation_given : (ms : List Member) (q : Quant) (r : Relation) (rs : List Reading) → AreMembers ms → IsRelated r → length rs ≡ quant_arity q → GivenEach rs → Given (says.over_relation b ms q r rs).tree
    over_relation_given ms q (relation.Declared r) rs h has e k = listed_given q r (says.lines b rs) has (lines_give (quant_arity q) rs e k)
    over_relation_given ms q (relation.Inferred n) rs h has e k = over_found_given q (slice_get ms n) rs (λ x at. h n x at) k
    over_relation_given ms q relation.Unnamed rs h has e k = tt

    pub head_relation_given : (ms : List Member) (q : Quant) (r : Relation) (x : Reading) → AreMembers ms → IsRelated r → quant_arity q ≡ 1 → Given x.tree → Given (says.over_relation b ms q r (x ∷ [])).tree
    head_relation_given ms q r x h has e k = over_relation_given ms q r (x ∷ []) h has (sym e) (k, tt)

-- ---- the grammar

such_drop : (n : ℕ) (ts : List Lexeme) → AreSuch ts → AreSuch (drop n ts)
such_drop zero ts h = h
such_drop (suc n) [] h = h
such_drop (suc n) (t ∷ ts) h = such_drop n ts h.1

pub such_past : (ts : List Lexeme) → AreSuch ts → AreSuch (past_words ts)
such_past [] h = h
such_past (t ∷ ts) h = at (is_wordlike t.class) (such_past ts h.1)
  where
    at : (k : Bool) → AreSuch (past_words ts) → AreSuch (if k then past_words ts else t ∷ ts)
    at true p = p
    at false p = h

such_found : (ts : List Lexeme) (o : Option (ℕ × ℕ)) → AreSuch ts → AreSuch (past_found ts o)
such_found ts None h = such_past ts h
such_found ts (Some x) h = such_drop x.1 ts h

pub class_such : (c d : Class) (t : List ℕ) → c ≡ d → IsSuch c t → IsSuch d t
class_such c d t e h = subst (λ x. IsSuch x t) e h

-- what the phrases of attributes and relations stand for is declared
pub record AreNamed (m : Lists) (ns : Names) : Type 0 where
  pub operands : (i : ℕ) → Of (λ (x : Operand). HasAttribute m x.attr) (slice_get ns.meanings i)
  pub relations : (i : ℕ) → Of (IsRelated m) (slice_get ns.related i)
  pub members : AreMembers m ns.members

module _ (m : Lists) (ns : Names) (names : AreNamed m ns) where
  found_related : (o : Option (ℕ × ℕ)) → IsRelated m (relation_found ns o)
  found_related None = tt
  found_related (Some x) = by (slice_get ns.related x.0) (names.relations x.0)
    where
      by : (o : Option Relation) → Of (IsRelated m) o → IsRelated m (related_or_none o)
      by None h = tt
      by (Some r) h = h

  pub relation_named : (ts : List Lexeme) (x : Relation × List Lexeme) → relation_at ns ts ≡ Some x → IsRelated m x.0
  relation_named [] x e = absurd (cc e)
  relation_named (t ∷ ts) x e = at (is_word t.class) e
    where
      at : (k : Bool) → (if k then Some (relation_found ns (longest ns.relations (t ∷ ts)), past_found (t ∷ ts) (longest ns.relations (t ∷ ts))) else None) ≡ Some x → IsRelated m x.0
      at true p =
          let found : Relation × List Lexeme = (relation_found ns (longest ns.relations (t ∷ ts)), past_found (t ∷ ts) (longest ns.relations (t ∷ ts))) in
          let same : found ≡ x = cc p in
          subst (λ (y : Relation × List Lexeme). IsRelated m y.0) same (found_related (longest ns.relations (t ∷ ts)))
      at false p = absurd (cc p)

  pub relation_such : (ts : List Lexeme) (x : Relation × List Lexeme) → relation_at ns ts ≡ Some x → AreSuch ts → IsRelated m x.0 × AreSuch x.1
  relation_such [] x e h = absurd (cc e)
  relation_such (t ∷ ts) x e h = at (is_word t.class) e
    where
      at : (k : Bool) → (if k then Some (relation_found ns (longest ns.relations (t ∷ ts)), past_found (t ∷ ts) (longest ns.relations (t ∷ ts))) else None) ≡ Some x → IsRelated m x.0 × AreSuch x.1
      at true p =
          let found : Relation × List Lexeme = (relation_found ns (longest ns.relations (t ∷ ts)), past_found (t ∷ ts) (longest ns.relations (t ∷ ts))) in
          let same : found ≡ x = cc p in
          subst (λ (y : Relation × List Lexeme). IsRelated m y.0 × AreSuch y.1) same (found_related (longest ns.relations (t ∷ ts)), such_found (t ∷ ts) (longest ns.relations (t ∷ ts)) h)
      at false p = absurd (cc p)

  module _ (b : Bounds) where
    -- the lines, the relation and the number between a call's brackets
    record AreGiven (a : Arguments) : Type 0 where
      pub lines : GivenEach m b a.lines
      pub relation : IsRelated m a.relation
      pub number : Of (IsWhole m) a.number

    none_given : AreGiven says.no_arguments
    none_given = record { lines = tt; relation = tt; number = tt }

    called_given : (f : Function) (a : Arguments) → AreGiven a → length a.lines ≡ lines_in f → Given m (says.called b ns.members f a).tree
    called_given (function.Op op.Round) a h e = round_given m b (says.lines b a.lines) a.number (lines_give m b 1 a.lines e h.lines) h.number
    called_given (function.Op k) a h e = operation_given m b k (says.lines b a.lines) refl (lines_give m b (op_arity k) a.lines e h.lines)
    called_given function.Certain a h e = one_given m b (λ x. expr.Certain x) (says.last_line b a.lines) (λ x k. tree.IsGrammatical.certain x k) (last_given m b a.lines h.lines)
    called_given function.Known a h e = one_given m b (λ x. expr.Known x) (says.last_line b a.lines) (λ x k. tree.IsGrammatical.known x k) (last_given m b a.lines h.lines)
    called_given (function.Over q) a h e = over_relation_given m b ns.members q a.relation a.lines names.members h.relation e h.lines
    called_given (function.Window k) a h e = over_given m b (window_arity k) (λ es. expr.Window k es) (says.lines b a.lines) (window_made m k) (lines_give m b (window_arity k) a.lines e h.lines)
    called_given (function.Rolling always) a h e = one_given m b (λ x. expr.Rolling always (days a.number) x) (says.last_line b a.lines) (rolling_kept m always a.number) (last_given m b a.lines h.lines)

    pub between_given : (k : OpKind) → op_arity k ≡ 2 → is_round k ≡ false → (x y : Reading) → Given m x.tree → Given m y.tree → Given m (says.between b k x y).tree
    between_given k e r x y h i = operation_given m b k (says.two_parts b x y) r (subst (λ n. Gives m n (says.two_parts b x y).trees) (sym e) (two_parts_give m b x y h i))

    negate_given : (x : Reading) → Given m x.tree → Given m (says.nested b (says.operation b op.Neg (says.one_part b x))).tree
    negate_given x h = nested_given m b (says.operation b op.Neg (says.one_part b x)) (operation_given m b op.Neg (says.one_part b x) refl (one_part_gives m b x h))

    -- two or more parts
    abbrev Several : Parts → Type 0
    Several p = (n : ℕ) × (2 ≤ n) × Gives m n p.trees

    mutual
      pub given_by : {p : Part} {ts : List Lexeme} {x : Reading} {rest : List Lexeme} → Spells b ns p ts x rest → AreSuch ts → Given m x.tree × AreSuch rest
      given_by (g.Spells.one d) = λ r. given_by d r
      given_by (g.Spells.compared {x = x} {y = y} {t = t} k h d f) = λ r.
          let a = given_by d r in
          let c = given_by f a.1.1 in
          let is : IsSuch (class.Compare k) t.text = class_such t.class (class.Compare k) t.text h a.1.0 in
          (between_given k is.0 is.1 x y a.0 c.0, c.1)
      given_by (g.Spells.term d) = λ r. given_by d r
      given_by (g.Spells.plus {x = x} {y = y} h d f) = λ r. let a = given_by d r in let c = given_by f a.1.1 in (between_given op.Add refl refl x y a.0 c.0, c.1)
      given_by (g.Spells.less {x = x} {y = y} h d f) = λ r. let a = given_by d r in let c = given_by f a.1.1 in (between_given op.Sub refl refl x y a.0 c.0, c.1)
      given_by (g.Spells.factor d) = λ r. given_by d r
      given_by (g.Spells.times {x = x} {y = y} h d f) = λ r. let a = given_by d r in let c = given_by f a.1.1 in (between_given op.Mul refl refl x y a.0 c.0, c.1)
      given_by (g.Spells.over {x = x} {y = y} h d f) = λ r. let a = given_by d r in let c = given_by f a.1.1 in (between_given op.Div refl refl x y a.0 c.0, c.1)
      given_by (g.Spells.number {t = t} h n is) = λ r. (literal_given m b (value.Num n) refl (number_range t.text n is, tt), r.1)
      given_by (g.Spells.negative {t = t} h k n is) = λ r. (literal_given m b (value.Num n) refl (negative_range t.text n is, tt), r.1.1)
      given_by (g.Spells.date {t = t} h d is) = λ r. (literal_given m b (value.Day d) (dates_are_literals t.text d is) (day_range t.text d is), r.1)
      given_by (g.Spells.text {t = t} h) = λ r. (literal_given m b (value.Words (unquoted t.text)) refl (class_such t.class class.Text t.text h r.0), r.1)
      given_by (g.Spells.yes h) = λ r. (literal_given m b (value.Bool true) refl tt, r.1)
      given_by (g.Spells.no h) = λ r. (literal_given m b (value.Bool false) refl tt, r.1)
      given_by (g.Spells.uncertain h) = λ r. (literal_given m b value.Uncertain refl tt, r.1)
      given_by (g.Spells.negate {x = x} h k d) = λ r. let a = given_by d r.1 in (negate_given x a.0, a.1)
      given_by (g.Spells.deny {x = x} h d) = λ r. let a = given_by d r.1 in (nested_given m b (says.denial b x) (denial_given m b x a.0), a.1)
      given_by (g.Spells.call {a = z} f h k d l) = λ r.
          let a = arguments_given d r.1.1 none_given (none_before f) in
          (nested_given m b (says.called b ns.members f z) (called_given f z a.0 a.1), a.2.1)
      given_by (g.Spells.brackets {x = x} h d l) = λ r. let a = given_by d r.1 in (nested_given m b x a.0, a.1.1)
      given_by (g.Spells.all {x = x} {p = p} h d f l) = λ r.
          let a = given_by d r.1 in
          let c = more_given f a.1 1 (omega arith) (one_part_gives m b x a.0) in
          (nested_given m b (says.all b p) (all_given m b c.0.0 p c.0.1 c.0.2), c.1.1)
      given_by (g.Spells.any {x = x} {p = p} h d f l) = λ r.
          let a = given_by d r.1 in
          let c = more_given f a.1 1 (omega arith) (one_part_gives m b x a.0) in
          (nested_given m b (says.any b p) (any_given m b c.0.0 p c.0.1 c.0.2), c.1.1)
      given_by (g.Spells.phrase {t = t} {ts = ts} h i n is) = λ r. (operand_given m b (slice_get ns.meanings i) (names.operands i), such_drop n (t ∷ ts) r)
      given_by (g.Spells.unnamed {t = t} {ts = ts} h is) = λ r. (tt, such_past (t ∷ ts) r)

      more_given : {j : Bool} {ts : List Lexeme} {p q : Parts} {rest : List Lexeme} → SpellsMore b ns j ts p q rest → AreSuch ts → (n : ℕ) → 1 ≤ n → Gives m n p.trees → Several q × AreSuch rest
      more_given (g.SpellsMore.last {p = p} {x = x} h d) = λ r n o k. let a = given_by d r.1 in ((n + 1, omega (arith, o), with_part_gives m b n p x k a.0), a.1)
      more_given (g.SpellsMore.more {p = p} {x = x} h d f) = λ r n o k. let a = given_by d r.1 in more_given f a.1 (n + 1) (omega arith) (with_part_gives m b n p x k a.0)

      argument_given : {f : Function} {n : ℕ} {ts : List Lexeme} {a z : Arguments} {rest : List Lexeme} → SpellsArgument b ns f n ts a z rest → AreSuch ts → AreGiven a → length a.lines ≡ lines_before f n
          → (x : Argument) × (argument_at f n ≡ Some x) × AreGiven z × (length z.lines ≡ lines_before f (n + 1)) × AreSuch rest
      argument_given (g.SpellsArgument.as_line {f = f} {n = n} {a = a} {x = x} h d) = λ r e k.
          let c = given_by d r in
          (argument.Line, h, record { lines = each_more m b a.lines x e.lines c.0; relation = e.relation; number = e.number }, line_last a.lines x ∙ ap (λ y. y + 1) k ∙ sym (step f n argument.Line h), c.1)
      argument_given (g.SpellsArgument.as_relation {f = f} {n = n} {ts = ts} {a = a} h x is) = λ r e k.
          let s = relation_such ts x is r in
          (argument.Relation, h, record { lines = e.lines; relation = s.0; number = e.number }, k ∙ (let z : lines_before f n ≡ lines_before f n + 0 = omega arith in z) ∙ sym (step f n argument.Relation h), s.1)
      argument_given (g.SpellsArgument.as_number {f = f} {n = n} {t = t} {a = a} h c z is) = λ r e k.
          let unsigned = class_such t.class class.Number t.text c r.0 in
          let count = unsigned_count t.text z unsigned is in
          (argument.Number, h, record { lines = e.lines; relation = e.relation; number = (count.count, count.is, number_range t.text z is) }, k ∙ (let z : lines_before f n ≡ lines_before f n + 0 = omega arith in z) ∙ sym (step f n argument.Number h), r.1)

      arguments_given : {f : Function} {n : ℕ} {ts : List Lexeme} {a z : Arguments} {rest : List Lexeme} → SpellsArguments b ns f n ts a z rest → AreSuch ts → AreGiven a → length a.lines ≡ lines_before f n
          → AreGiven z × (length z.lines ≡ lines_in f) × AreSuch rest
      arguments_given (g.SpellsArguments.last_argument {f = f} {n = n} d h) = λ r e k. let a = argument_given d r e k in (a.2, a.3 ∙ complete f n a.0 a.1 h, a.4)
      arguments_given (g.SpellsArguments.more_arguments d h f) = λ r e k. let a = argument_given d r e k in arguments_given f a.4.1 a.2 a.3
