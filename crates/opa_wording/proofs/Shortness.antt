-- What is spelled has no text over its number, where its tree has none.
use Rattle.std.proofs.Common.{◌≡◌, ℕ, ℤ, List, [], ◌∷◌, ◌++◌, map, Bool, true, false, ◌&&◌, cond, Option, Some, None, slice_get, refl, sym, ap, ◌∙◌}
use Rattle.std.proofs.lemmas.Bool.{and_from}
use Rattle.opa_io.proofs.Bools.{and_first, and_second}
use Rattle.opa_value.specs.declared.value.Value.{Value}
use Rattle.opa_value.specs.declared.value.Value.TheVariants as value
use Rattle.opa_model.specs.declared.ids.AttrId.{AttrId}
use Rattle.opa_model.specs.declared.ids.RelId.{RelId}
use Rattle.opa_tree.specs.declared.kinds.OpKind.{OpKind}
use Rattle.opa_tree.specs.declared.kinds.OpKind.TheVariants as op
use Rattle.opa_tree.specs.declared.kinds.Quant.{Quant}
use Rattle.opa_tree.specs.declared.kinds.Quant.TheVariants as quant
use Rattle.opa_tree.specs.declared.kinds.WinKind.{WinKind}
use Rattle.opa_tree.specs.declared.expr.Expr.{Expr}
use Rattle.opa_tree.specs.declared.expr.Expr.TheVariants as expr
use Rattle.opa_tree.specs.declared.expr.Row.{Row}
use Rattle.opa_tree.proofs.Folds.{fold-Const, fold-All, fold-Any, fold-Not, fold-Op, fold-Certain, fold-Known, fold-Over, fold-Window, fold-Rolling, fold-Table, fold-of_row}
use Rattle.opa_tree.specs.declared.expr.Expr.TheFolds.{fold-Row}
use Rattle.opa_sentence.specs.declared.functions.Function.{Function}
use Rattle.opa_sentence.specs.declared.functions.Function.TheVariants as function
use Rattle.opa_sentence.specs.declared.names.Names.{Names}
use Rattle.opa_sentence.specs.declared.names.Member.{Member}
use Rattle.opa_sentence.specs.declared.names.Operand.{Operand}
use Rattle.opa_sentence.specs.declared.names.Relation.{Relation}
use Rattle.opa_sentence.specs.declared.names.Relation.TheVariants as relation
use Rattle.opa_sentence.specs.declared.reading.Reading.{Reading}
use Rattle.opa_sentence.specs.declared.reading.Parts.{Parts}
use Rattle.opa_sentence.specs.declared.reading.Arguments.{Arguments}
use Rattle.opa_sentence.specs.Lexemes.{Lexeme}
use Rattle.opa_sentence.specs.Measures.{unbounded}
use Rattle.opa_sentence.specs.Readings as says
use Rattle.opa_sentence.specs.Readings.{with_tree, but_last, is_short, days}
use Rattle.opa_sentence.specs.Grammar.{Part, Spells, SpellsMore, SpellsArgument, SpellsArguments}
use Rattle.opa_sentence.specs.Grammar as g
use Rattle.opa_wording.specs.Limits.{all_true, short_step, short_row, has_short_texts}
use Rattle.opa_wording.proofs.LinesGiven.{Of, of_map}

-- ---- trees of each sort

short-Const : (v : Value) → has_short_texts (expr.Const v) ≡ is_short v
unfolding has_short_texts
short-Const v = fold-Const Bool Bool short_step short_row v

pub short-All : (es : List Expr) → has_short_texts (expr.All es) ≡ all_true (map has_short_texts es)
unfolding has_short_texts
short-All es = fold-All Bool Bool short_step short_row es

pub short-Any : (es : List Expr) → has_short_texts (expr.Any es) ≡ all_true (map has_short_texts es)
unfolding has_short_texts
short-Any es = fold-Any Bool Bool short_step short_row es

short-Not : (e : Expr) → has_short_texts (expr.Not e) ≡ has_short_texts e
unfolding has_short_texts
short-Not e = fold-Not Bool Bool short_step short_row e

short-Op : (k : OpKind) (es : List Expr) → has_short_texts (expr.Op k es) ≡ all_true (map has_short_texts es)
unfolding has_short_texts
short-Op k es = fold-Op Bool Bool short_step short_row k es

short-Certain : (e : Expr) → has_short_texts (expr.Certain e) ≡ has_short_texts e
unfolding has_short_texts
short-Certain e = fold-Certain Bool Bool short_step short_row e

short-Known : (e : Expr) → has_short_texts (expr.Known e) ≡ has_short_texts e
unfolding has_short_texts
short-Known e = fold-Known Bool Bool short_step short_row e

short-Over : (q : Quant) (r : RelId) (es : List Expr) → has_short_texts (expr.Over q r es) ≡ all_true (map has_short_texts es)
unfolding has_short_texts
short-Over q r es = fold-Over Bool Bool short_step short_row q r es

short-Window : (k : WinKind) (es : List Expr) → has_short_texts (expr.Window k es) ≡ all_true (map has_short_texts es)
unfolding has_short_texts
short-Window k es = fold-Window Bool Bool short_step short_row k es

short-Rolling : (always : Bool) (n : ℕ) (e : Expr) → has_short_texts (expr.Rolling always n e) ≡ has_short_texts e
unfolding has_short_texts
short-Rolling always n e = fold-Rolling Bool Bool short_step short_row always n e

rows_short : (rows : List Row) → map (fold-Row Bool Bool short_step short_row) rows ≡ map (λ (r : Row). has_short_texts r.cond && has_short_texts r.value) rows
unfolding has_short_texts
rows_short [] = refl
rows_short (r ∷ rows) = ap (λ b. b ∷ map (fold-Row Bool Bool short_step short_row) rows) (fold-of_row Bool Bool short_step short_row r) ∙ ap (λ bs. (has_short_texts r.cond && has_short_texts r.value) ∷ bs) (rows_short rows)

pub short-Table : (rows : List Row) (last : Expr) → has_short_texts (expr.Table rows last) ≡ (all_true (map (λ (r : Row). has_short_texts r.cond && has_short_texts r.value) rows) && has_short_texts last)
unfolding has_short_texts
short-Table rows last = fold-Table Bool Bool short_step short_row rows last ∙ ap (λ bs. all_true bs && has_short_texts last) (rows_short rows)

-- ---- readings

-- where the tree has no long text, there was none
abbrev pub Tells : Bool → Expr → Type 0
Tells s e = has_short_texts e ≡ true → s ≡ true

abbrev TellsAll : Bool → List Expr → Type 0
TellsAll s es = all_true (map has_short_texts es) ≡ true → s ≡ true

abbrev pub Short : Reading → Type 0
Short r = Of (Tells r.measure.short) r.tree

abbrev ShortParts : Parts → Type 0
ShortParts p = Of (TellsAll p.measure.short) p.trees

last_short : (es : List Expr) (e : Expr) → all_true (map has_short_texts (es ++ e ∷ [])) ≡ true → (all_true (map has_short_texts es) ≡ true) × (has_short_texts e ≡ true)
last_short [] e h = (refl, and_first (has_short_texts e) true h)
last_short (x ∷ es) e h =
    let r = last_short es e (and_second (has_short_texts x) (all_true (map has_short_texts (es ++ e ∷ []))) h) in
    (and_from (has_short_texts x) (all_true (map has_short_texts es)) (and_first (has_short_texts x) (all_true (map has_short_texts (es ++ e ∷ []))) h) r.0, r.1)

with_short : (a b : Bool) (ts : Option (List Expr)) (t : Option Expr) → Of (TellsAll a) ts → Of (Tells b) t → Of (TellsAll (a && b)) (with_tree ts t)
with_short a b None t h k = tt
with_short a b (Some es) None h k = tt
with_short a b (Some es) (Some e) h k = λ s. let l = last_short es e s in and_from a b (h l.0) (k l.1)

part_short : (p : Parts) (r : Reading) → ShortParts p → Short r → ShortParts (says.with_part unbounded p r)
part_short p r h k = with_short p.measure.short r.measure.short p.trees r.tree h k

none_short : ShortParts (says.no_parts unbounded)
none_short = λ s. refl

one_short : (r : Reading) → Short r → ShortParts (says.one_part unbounded r)
one_short r h = part_short (says.no_parts unbounded) r none_short h

two_short : (q r : Reading) → Short q → Short r → ShortParts (says.two_parts unbounded q r)
two_short q r h k = part_short (says.one_part unbounded q) r (one_short q h) k

over_short : (f : List Expr → Expr) (p : Parts) → ((es : List Expr) → has_short_texts (f es) ≡ all_true (map has_short_texts es)) → ShortParts p → Short (says.over unbounded f p)
over_short f p is h = of_map (TellsAll p.measure.short) (Tells p.measure.short) f p.trees (λ es k s. k (sym (is es) ∙ s)) h

single_short : (f : Expr → Expr) (r : Reading) → ((e : Expr) → has_short_texts (f e) ≡ has_short_texts e) → Short r → Short (says.one unbounded f r)
single_short f r is h = of_map (Tells r.measure.short) (Tells r.measure.short) f r.tree (λ e k s. k (sym (is e) ∙ s)) h

literal_short : (v : Value) → Short (says.literal unbounded v)
literal_short v = λ s. sym (short-Const v) ∙ s

denial_short : (r : Reading) → Short r → Short (says.denial unbounded r)
denial_short r h = single_short (λ e. expr.Not e) r short-Not h

attribute_short : (a : AttrId) → Short (says.attribute unbounded a)
attribute_short a = λ s. refl

operand_by : (a : AttrId) (d : Bool) → Short (cond d (says.denial unbounded (says.attribute unbounded a)) (says.attribute unbounded a))
operand_by a true = denial_short (says.attribute unbounded a) (attribute_short a)
operand_by a false = attribute_short a

operand_short : (o : Option Operand) → Short (says.operand unbounded o)
operand_short None = tt
operand_short (Some o) = operand_by o.attr o.denied

all_short : (p : Parts) → ShortParts p → Short (says.all unbounded p)
all_short p h = over_short (λ es. expr.All es) p short-All h

any_short : (p : Parts) → ShortParts p → Short (says.any unbounded p)
any_short p h = over_short (λ es. expr.Any es) p short-Any h

listed_short : (q : Quant) (r : RelId) (p : Parts) → ShortParts p → Short (says.listed unbounded q r p)
listed_short q r p h = over_short (λ es. expr.Over q r es) p (short-Over q r) h

-- ---- calls

abbrev ShortEach : List Reading → Type 0
ShortEach [] = Unit {0}
ShortEach (r ∷ rs) = Short r × ShortEach rs

each_more : (rs : List Reading) (x : Reading) → ShortEach rs → Short x → ShortEach (rs ++ x ∷ [])
each_more [] x h k = (k, tt)
each_more (r ∷ rs) x h k = (h.0, each_more rs x h.1 k)

last_line_short : (rs : List Reading) → ShortEach rs → Short (says.last_line unbounded rs)
last_line_short [] h = tt
last_line_short (r ∷ []) h = h.0
last_line_short (r ∷ s ∷ rs) h = last_line_short (s ∷ rs) h.1

but_last_short : (rs : List Reading) → ShortEach rs → ShortEach (but_last rs)
but_last_short [] h = tt
but_last_short (r ∷ []) h = tt
but_last_short (r ∷ s ∷ rs) h = (h.0, but_last_short (s ∷ rs) h.1)

gathered_short : (p : Parts) (rs : List Reading) → ShortParts p → ShortEach rs → ShortParts (says.gathered unbounded p rs)
gathered_short p [] h k = h
gathered_short p (r ∷ rs) h k = gathered_short (says.with_part unbounded p r) rs (part_short p r h k.0) k.1

lines_short : (rs : List Reading) → ShortEach rs → ShortParts (says.lines unbounded rs)
lines_short rs h = gathered_short (says.no_parts unbounded) rs none_short h

membership_short : (x : Member) → Short (says.membership unbounded x)
membership_short x = λ s. refl

met : (x : Member) (r : Reading) → Short r → Short (says.all unbounded (says.two_parts unbounded (says.membership unbounded x) r))
met x r h = all_short (says.two_parts unbounded (says.membership unbounded x) r) (two_short (says.membership unbounded x) r (membership_short x) h)

unmet : (x : Member) (r : Reading) → Short r → Short (says.any unbounded (says.two_parts unbounded (says.denial unbounded (says.membership unbounded x)) r))
unmet x r h = any_short (says.two_parts unbounded (says.denial unbounded (says.membership unbounded x)) r) (two_short (says.denial unbounded (says.membership unbounded x)) r (denial_short (says.membership unbounded x) (membership_short x)) h)

over_members_short : (q : Quant) (x : Member) (rs : List Reading) → ShortEach rs → Short (says.over_members unbounded q x rs)
over_members_short quant.ForAll x rs k = listed_short quant.ForAll x.every (says.one_part unbounded (says.any unbounded (says.two_parts unbounded (says.denial unbounded (says.membership unbounded x)) (says.last_line unbounded rs)))) (one_short (says.any unbounded (says.two_parts unbounded (says.denial unbounded (says.membership unbounded x)) (says.last_line unbounded rs))) (unmet x (says.last_line unbounded rs) (last_line_short rs k)))
over_members_short quant.Exists x rs k = listed_short quant.Exists x.every (says.one_part unbounded (says.all unbounded (says.two_parts unbounded (says.membership unbounded x) (says.last_line unbounded rs)))) (one_short (says.all unbounded (says.two_parts unbounded (says.membership unbounded x) (says.last_line unbounded rs))) (met x (says.last_line unbounded rs) (last_line_short rs k)))
over_members_short quant.Count x rs k = listed_short quant.CountIf x.every (says.one_part unbounded (says.membership unbounded x)) (one_short (says.membership unbounded x) (membership_short x))
over_members_short quant.CountIf x rs k = listed_short quant.CountIf x.every (says.one_part unbounded (says.all unbounded (says.two_parts unbounded (says.membership unbounded x) (says.last_line unbounded rs)))) (one_short (says.all unbounded (says.two_parts unbounded (says.membership unbounded x) (says.last_line unbounded rs))) (met x (says.last_line unbounded rs) (last_line_short rs k)))
over_members_short quant.Sum x rs k = listed_short quant.SumIf x.every (says.two_parts unbounded (says.last_line unbounded rs) (says.membership unbounded x)) (two_short (says.last_line unbounded rs) (says.membership unbounded x) (last_line_short rs k) (membership_short x))
over_members_short quant.SumIf x rs k =
    listed_short quant.SumIf x.every (says.two_parts unbounded (says.last_line unbounded (but_last rs)) (says.all unbounded (says.two_parts unbounded (says.membership unbounded x) (says.last_line unbounded rs))))
    (two_short (says.last_line unbounded (but_last rs)) (says.all unbounded (says.two_parts unbounded (says.membership unbounded x) (says.last_line unbounded rs))) (last_line_short (but_last rs) (but_last_short rs k)) (met x (says.last_line unbounded rs) (last_line_short rs k)))
over_members_short quant.For x rs k = tt
over_members_short quant.Maximum x rs k = tt
over_members_short quant.Minimum x rs k = tt

over_found_short : (q : Quant) (o : Option Member) (rs : List Reading) → ShortEach rs → Short (says.over_found unbounded q o rs)
over_found_short q None rs k = tt
over_found_short q (Some x) rs k = over_members_short q x rs k

over_relation_short : (ms : List Member) (q : Quant) (r : Relation) (rs : List Reading) → ShortEach rs → Short (says.over_relation unbounded ms q r rs)
over_relation_short ms q (relation.Declared r) rs k = listed_short q r (says.lines unbounded rs) (lines_short rs k)
over_relation_short ms q (relation.Inferred n) rs k = over_found_short q (slice_get ms n) rs k
over_relation_short ms q relation.Unnamed rs k = tt

written_short : (n : Option ℤ) → Short (says.written unbounded n)
written_short None = tt
written_short (Some n) = literal_short (value.Num n)

called_short : (ms : List Member) (f : Function) (a : Arguments) → ShortEach a.lines → Short (says.called unbounded ms f a)
called_short ms (function.Op op.Round) a h = over_short (λ es. expr.Op op.Round es) (says.with_part unbounded (says.lines unbounded a.lines) (says.written unbounded a.number)) (short-Op op.Round) (part_short (says.lines unbounded a.lines) (says.written unbounded a.number) (lines_short a.lines h) (written_short a.number))
called_short ms (function.Op k) a h = over_short (λ es. expr.Op k es) (says.lines unbounded a.lines) (short-Op k) (lines_short a.lines h)
called_short ms function.Certain a h = single_short (λ x. expr.Certain x) (says.last_line unbounded a.lines) short-Certain (last_line_short a.lines h)
called_short ms function.Known a h = single_short (λ x. expr.Known x) (says.last_line unbounded a.lines) short-Known (last_line_short a.lines h)
called_short ms (function.Over q) a h = over_relation_short ms q a.relation a.lines h
called_short ms (function.Window k) a h = over_short (λ es. expr.Window k es) (says.lines unbounded a.lines) (short-Window k) (lines_short a.lines h)
called_short ms (function.Rolling always) a h = single_short (λ x. expr.Rolling always (days a.number) x) (says.last_line unbounded a.lines) (short-Rolling always (days a.number)) (last_line_short a.lines h)

between_short : (k : OpKind) (x y : Reading) → Short x → Short y → Short (says.between unbounded k x y)
between_short k x y h i = over_short (λ es. expr.Op k es) (says.two_parts unbounded x y) (short-Op k) (two_short x y h i)

-- ---- the grammar

module _ (ns : Names) where
  mutual
    pub short_by : {p : Part} {ts : List Lexeme} {x : Reading} {rest : List Lexeme} → Spells unbounded ns p ts x rest → Short x
    short_by (g.Spells.one d) = short_by d
    short_by (g.Spells.compared {x = x} {y = y} k h d f) = between_short k x y (short_by d) (short_by f)
    short_by (g.Spells.term d) = short_by d
    short_by (g.Spells.plus {x = x} {y = y} h d f) = between_short op.Add x y (short_by d) (short_by f)
    short_by (g.Spells.less {x = x} {y = y} h d f) = between_short op.Sub x y (short_by d) (short_by f)
    short_by (g.Spells.factor d) = short_by d
    short_by (g.Spells.times {x = x} {y = y} h d f) = between_short op.Mul x y (short_by d) (short_by f)
    short_by (g.Spells.over {x = x} {y = y} h d f) = between_short op.Div x y (short_by d) (short_by f)
    short_by (g.Spells.number h n is) = literal_short (value.Num n)
    short_by (g.Spells.negative h k n is) = literal_short (value.Num n)
    short_by (g.Spells.date h d is) = literal_short (value.Day d)
    short_by (g.Spells.text h) = literal_short _
    short_by (g.Spells.yes h) = literal_short (value.Bool true)
    short_by (g.Spells.no h) = literal_short (value.Bool false)
    short_by (g.Spells.uncertain h) = literal_short value.Uncertain
    short_by (g.Spells.negate {x = x} h k d) = over_short (λ es. expr.Op op.Neg es) (says.one_part unbounded x) (short-Op op.Neg) (one_short x (short_by d))
    short_by (g.Spells.deny {x = x} h d) = denial_short x (short_by d)
    short_by (g.Spells.call {a = z} f h k d l) = called_short ns.members f z (short_arguments d tt)
    short_by (g.Spells.brackets h d l) = short_by d
    short_by (g.Spells.all {x = x} {p = p} h d f l) = all_short p (short_more f (one_short x (short_by d)))
    short_by (g.Spells.any {x = x} {p = p} h d f l) = any_short p (short_more f (one_short x (short_by d)))
    short_by (g.Spells.phrase h i n is) = operand_short (slice_get ns.meanings i)
    short_by (g.Spells.unnamed h is) = tt

    short_more : {j : Bool} {ts : List Lexeme} {p q : Parts} {rest : List Lexeme} → SpellsMore unbounded ns j ts p q rest → ShortParts p → ShortParts q
    short_more (g.SpellsMore.last {p = p} {x = x} h d) = λ k. part_short p x k (short_by d)
    short_more (g.SpellsMore.more {p = p} {x = x} h d f) = λ k. short_more f (part_short p x k (short_by d))

    short_argument : {f : Function} {n : ℕ} {ts : List Lexeme} {a z : Arguments} {rest : List Lexeme} → SpellsArgument unbounded ns f n ts a z rest → ShortEach a.lines → ShortEach z.lines
    short_argument (g.SpellsArgument.as_line {a = a} {x = x} h d) = λ k. each_more a.lines x k (short_by d)
    short_argument (g.SpellsArgument.as_relation h x is) = λ k. k
    short_argument (g.SpellsArgument.as_number h c z is) = λ k. k

    short_arguments : {f : Function} {n : ℕ} {ts : List Lexeme} {a z : Arguments} {rest : List Lexeme} → SpellsArguments unbounded ns f n ts a z rest → ShortEach a.lines → ShortEach z.lines
    short_arguments (g.SpellsArguments.last_argument d h) = λ k. short_argument d k
    short_arguments (g.SpellsArguments.more_arguments d h f) = λ k. short_arguments f (short_argument d k)
