-- The measure of what a part of a line says is that of its tree.
use Rattle.std.proofs.Common.{◌≡◌, ℕ, ℤ, ◌+◌, max, List, [], ◌∷◌, ◌++◌, map, Bool, true, false, ◌&&◌, cond, Option, Some, None, slice_get, option_map, refl, ap, ◌∙◌, arith}
use Rattle.std.proofs.lemmas.Bool.{and_right}
use Rattle.opa_value.specs.declared.value.Value.{Value}
use Rattle.opa_value.specs.declared.value.Value.TheVariants as value
use Rattle.opa_model.specs.declared.ids.AttrId.{AttrId}
use Rattle.opa_model.specs.declared.ids.RelId.{RelId}
use Rattle.opa_tree.specs.declared.kinds.OpKind.{OpKind}
use Rattle.opa_tree.specs.declared.kinds.OpKind.TheVariants as op
use Rattle.opa_tree.specs.declared.kinds.Quant.{Quant}
use Rattle.opa_tree.specs.declared.kinds.Quant.TheVariants as quant
use Rattle.opa_tree.specs.declared.kinds.WinKind.{WinKind}
use Rattle.opa_tree.specs.declared.expr.Expr.{Expr}
use Rattle.opa_tree.specs.declared.expr.Expr.TheVariants as expr
use Rattle.opa_tree.specs.Trees.{depth, highest}
use Rattle.opa_tree.proofs.DepthLaws as deep
use Rattle.opa_tree.proofs.Folds.{fold-Const, fold-Attr, fold-All, fold-Any, fold-Not, fold-Op, fold-Certain, fold-Known, fold-Over, fold-Window, fold-Rolling}
use Rattle.opa_sentence.specs.declared.functions.Function.{Function}
use Rattle.opa_sentence.specs.declared.functions.Function.TheVariants as function
use Rattle.opa_sentence.specs.declared.measure.Measure.{Measure}
use Rattle.opa_sentence.specs.declared.names.Names.{Names}
use Rattle.opa_sentence.specs.declared.names.Operand.{Operand}
use Rattle.opa_sentence.specs.declared.names.Relation.{Relation}
use Rattle.opa_sentence.specs.declared.names.Relation.TheVariants as relation
use Rattle.opa_sentence.specs.declared.names.Member.{Member}
use Rattle.opa_sentence.specs.declared.reading.Reading.{Reading}
use Rattle.opa_sentence.specs.declared.reading.Parts.{Parts}
use Rattle.opa_sentence.specs.declared.reading.Arguments.{Arguments}
use Rattle.opa_sentence.specs.Lexemes.{Lexeme}
use Rattle.opa_sentence.specs.Measures.{beside, above, nodes, nodes_step, nodes_row, total, unbounded}
use Rattle.opa_sentence.specs.Measured.{Tells, TellsTree, TellsAll, IsMeasured}
use Rattle.opa_sentence.specs.Readings as says
use Rattle.opa_sentence.specs.Readings.{with_tree, but_last}
use Rattle.opa_sentence.specs.Grammar.{Part, Spells, SpellsMore, SpellsArgument, SpellsArguments}
use Rattle.opa_sentence.specs.Grammar as g

-- ---- one more tree

pub deepest_last : (ys : List Expr) (x : Expr) → highest (map depth (ys ++ x ∷ [])) ≡ max (highest (map depth ys)) (depth x)
deepest_last [] x = omega arith
deepest_last (y ∷ ys) x = omega (arith, deepest_last ys x)

widest_last : (ys : List Expr) (x : Expr) → total (map nodes (ys ++ x ∷ [])) ≡ total (map nodes ys) + nodes x
widest_last [] x = omega arith
widest_last (y ∷ ys) x = omega (arith, widest_last ys x)

with_tells : (m n : Measure) (ts : Option (List Expr)) (t : Option Expr) → TellsAll m ts → Tells n t → TellsAll (beside m n) (with_tree ts t)
with_tells m n None t h k = ap (λ b. b && n.named) h
with_tells m n (Some ts) None h k = and_right m.named n.named k
with_tells m n (Some ts) (Some t) h k =
    (ap (λ b. b && n.named) h.0 ∙ k.0, deepest_last ts t ∙ omega (arith, h.1, k.1), widest_last ts t ∙ omega (arith, h.2, k.2))

part_tells : (p : Parts) (x : Reading) → TellsAll p.measure p.trees → TellsTree x → TellsAll (says.with_part unbounded p x).measure (says.with_part unbounded p x).trees
part_tells p x h k = with_tells p.measure x.measure p.trees x.tree h k

-- ---- a tree over trees

abbrev Grows : (List Expr → Expr) → Type 0
Grows f = (es : List Expr) → (depth (f es) ≡ 1 + highest (map depth es)) × (nodes (f es) ≡ 1 + total (map nodes es))

over_tells : (f : List Expr → Expr) → Grows f → (m : Measure) (ts : Option (List Expr)) → TellsAll m ts → Tells (above m) (option_map f ts)
over_tells f grows m None h = h
over_tells f grows m (Some es) h = (h.0, (grows es).0 ∙ ap (λ n. 1 + n) h.1, (grows es).1 ∙ ap (λ n. 1 + n) h.2)

abbrev Rises : (Expr → Expr) → Type 0
Rises f = (e : Expr) → (depth (f e) ≡ 1 + depth e) × (nodes (f e) ≡ 1 + nodes e)

one_tells : (f : Expr → Expr) → Rises f → (m : Measure) (t : Option Expr) → Tells m t → Tells (above m) (option_map f t)
one_tells f rises m None h = h
one_tells f rises m (Some e) h = (h.0, (rises e).0 ∙ ap (λ n. 1 + n) h.1, (rises e).1 ∙ ap (λ n. 1 + n) h.2)

all_grows : Grows (λ es. expr.All es)
unfolding nodes
all_grows es = (deep.depth-All es, fold-All ℕ ℕ nodes_step nodes_row es)

any_grows : Grows (λ es. expr.Any es)
unfolding nodes
any_grows es = (deep.depth-Any es, fold-Any ℕ ℕ nodes_step nodes_row es)

op_grows : (k : OpKind) → Grows (λ es. expr.Op k es)
unfolding nodes
op_grows k es = (deep.depth-Op k es, fold-Op ℕ ℕ nodes_step nodes_row k es)

listed_grows : (q : Quant) (r : RelId) → Grows (λ es. expr.Over q r es)
unfolding nodes
listed_grows q r es = (deep.depth-Over q r es, fold-Over ℕ ℕ nodes_step nodes_row q r es)

window_grows : (k : WinKind) → Grows (λ es. expr.Window k es)
unfolding nodes
window_grows k es = (deep.depth-Window k es, fold-Window ℕ ℕ nodes_step nodes_row k es)

not_rises : Rises (λ e. expr.Not e)
unfolding nodes
not_rises e = (deep.depth-Not e, fold-Not ℕ ℕ nodes_step nodes_row e)

certain_rises : Rises (λ e. expr.Certain e)
unfolding nodes
certain_rises e = (deep.depth-Certain e, fold-Certain ℕ ℕ nodes_step nodes_row e)

known_rises : Rises (λ e. expr.Known e)
unfolding nodes
known_rises e = (deep.depth-Known e, fold-Known ℕ ℕ nodes_step nodes_row e)

rolling_rises : (always : Bool) (n : ℕ) → Rises (λ e. expr.Rolling always n e)
unfolding nodes
rolling_rises always n e = (deep.depth-Rolling always n e, fold-Rolling ℕ ℕ nodes_step nodes_row always n e)

-- ---- forms

literal_tells : (v : Value) → TellsTree (says.literal unbounded v)
unfolding nodes
literal_tells v = (refl, deep.depth-Const v, fold-Const ℕ ℕ nodes_step nodes_row v)

attribute_tells : (a : AttrId) → TellsTree (says.attribute unbounded a)
unfolding nodes
attribute_tells a = (refl, deep.depth-Attr a, fold-Attr ℕ ℕ nodes_step nodes_row a)

unnamed_tells : TellsTree (says.unnamed unbounded)
unnamed_tells = refl

none_tells : TellsAll (says.no_parts unbounded).measure (says.no_parts unbounded).trees
none_tells = (refl, refl, refl)

one_part_tells : (x : Reading) → TellsTree x → TellsAll (says.one_part unbounded x).measure (says.one_part unbounded x).trees
one_part_tells x h = part_tells (says.no_parts unbounded) x none_tells h

two_parts_tell : (x y : Reading) → TellsTree x → TellsTree y → TellsAll (says.two_parts unbounded x y).measure (says.two_parts unbounded x y).trees
two_parts_tell x y h k = part_tells (says.one_part unbounded x) y (one_part_tells x h) k

nested_tells : (m : Measure) (t : Option Expr) → Tells m t → Tells (record m { nesting = 1 + m.nesting }) t
nested_tells m None h = h
nested_tells m (Some e) h = h

nest : (x : Reading) → TellsTree x → TellsTree (says.nested unbounded x)
nest x h = nested_tells x.measure x.tree h

all_tells : (p : Parts) → TellsAll p.measure p.trees → TellsTree (says.all unbounded p)
all_tells p h = over_tells (λ es. expr.All es) all_grows p.measure p.trees h

any_tells : (p : Parts) → TellsAll p.measure p.trees → TellsTree (says.any unbounded p)
any_tells p h = over_tells (λ es. expr.Any es) any_grows p.measure p.trees h

operation_tells : (k : OpKind) (p : Parts) → TellsAll p.measure p.trees → TellsTree (says.operation unbounded k p)
operation_tells k p h = over_tells (λ es. expr.Op k es) (op_grows k) p.measure p.trees h

listed_tells : (q : Quant) (r : RelId) (p : Parts) → TellsAll p.measure p.trees → TellsTree (says.listed unbounded q r p)
listed_tells q r p h = over_tells (λ es. expr.Over q r es) (listed_grows q r) p.measure p.trees h

denial_tells : (x : Reading) → TellsTree x → TellsTree (says.denial unbounded x)
denial_tells x h = one_tells (λ e. expr.Not e) not_rises x.measure x.tree h

between_tells : (k : OpKind) (x y : Reading) → TellsTree x → TellsTree y → TellsTree (says.between unbounded k x y)
between_tells k x y h i = operation_tells k (says.two_parts unbounded x y) (two_parts_tell x y h i)

operand_by : (a : AttrId) (d : Bool) → TellsTree (cond d (says.denial unbounded (says.attribute unbounded a)) (says.attribute unbounded a))
operand_by a true = denial_tells (says.attribute unbounded a) (attribute_tells a)
operand_by a false = attribute_tells a

operand_tells : (o : Option Operand) → TellsTree (says.operand unbounded o)
operand_tells None = unnamed_tells
operand_tells (Some o) = operand_by o.attr o.denied

-- ---- calls

abbrev TellEach : List Reading → Type 0
TellEach [] = Unit {0}
TellEach (r ∷ rs) = TellsTree r × TellEach rs

each_more : (rs : List Reading) (x : Reading) → TellEach rs → TellsTree x → TellEach (rs ++ x ∷ [])
each_more [] x h k = (k, tt)
each_more (r ∷ rs) x h k = (h.0, each_more rs x h.1 k)

last_tells : (rs : List Reading) → TellEach rs → TellsTree (says.last_line unbounded rs)
last_tells [] h = unnamed_tells
last_tells (r ∷ []) h = h.0
last_tells (r ∷ s ∷ rs) h = last_tells (s ∷ rs) h.1

but_last_tell : (rs : List Reading) → TellEach rs → TellEach (but_last rs)
but_last_tell [] h = tt
but_last_tell (r ∷ []) h = tt
but_last_tell (r ∷ s ∷ rs) h = (h.0, but_last_tell (s ∷ rs) h.1)

gathered_tell : (p : Parts) (rs : List Reading) → TellsAll p.measure p.trees → TellEach rs → TellsAll (says.gathered unbounded p rs).measure (says.gathered unbounded p rs).trees
gathered_tell p [] h k = h
gathered_tell p (r ∷ rs) h k = gathered_tell (says.with_part unbounded p r) rs (part_tells p r h k.0) k.1

lines_tell : (rs : List Reading) → TellEach rs → TellsAll (says.lines unbounded rs).measure (says.lines unbounded rs).trees
lines_tell rs h = gathered_tell (says.no_parts unbounded) rs none_tells h

member_tells : (m : Member) → TellsTree (says.membership unbounded m)
member_tells m = (refl, refl, refl)

both_tell : (m : Member) (rs : List Reading) → TellEach rs → TellsTree (says.all unbounded (says.two_parts unbounded (says.membership unbounded m) (says.last_line unbounded rs)))
both_tell m rs h = all_tells (says.two_parts unbounded (says.membership unbounded m) (says.last_line unbounded rs)) (two_parts_tell (says.membership unbounded m) (says.last_line unbounded rs) (member_tells m) (last_tells rs h))

either_tells : (m : Member) (rs : List Reading) → TellEach rs → TellsTree (says.any unbounded (says.two_parts unbounded (says.denial unbounded (says.membership unbounded m)) (says.last_line unbounded rs)))
either_tells m rs h =
    any_tells (says.two_parts unbounded (says.denial unbounded (says.membership unbounded m)) (says.last_line unbounded rs))
    (two_parts_tell (says.denial unbounded (says.membership unbounded m)) (says.last_line unbounded rs) (denial_tells (says.membership unbounded m) (member_tells m)) (last_tells rs h))

one_listed_tells : (q : Quant) (r : RelId) (x : Reading) → TellsTree x → TellsTree (says.listed unbounded q r (says.one_part unbounded x))
one_listed_tells q r x h = listed_tells q r (says.one_part unbounded x) (one_part_tells x h)

two_listed_tell : (q : Quant) (r : RelId) (x y : Reading) → TellsTree x → TellsTree y → TellsTree (says.listed unbounded q r (says.two_parts unbounded x y))
two_listed_tell q r x y h k = listed_tells q r (says.two_parts unbounded x y) (two_parts_tell x y h k)

over_members_tells : (q : Quant) (m : Member) (rs : List Reading) → TellEach rs → TellsTree (says.over_members unbounded q m rs)
over_members_tells quant.ForAll m rs h = one_listed_tells quant.ForAll m.every (says.any unbounded (says.two_parts unbounded (says.denial unbounded (says.membership unbounded m)) (says.last_line unbounded rs))) (either_tells m rs h)
over_members_tells quant.Exists m rs h = one_listed_tells quant.Exists m.every (says.all unbounded (says.two_parts unbounded (says.membership unbounded m) (says.last_line unbounded rs))) (both_tell m rs h)
over_members_tells quant.Count m rs h = one_listed_tells quant.CountIf m.every (says.membership unbounded m) (member_tells m)
over_members_tells quant.CountIf m rs h = one_listed_tells quant.CountIf m.every (says.all unbounded (says.two_parts unbounded (says.membership unbounded m) (says.last_line unbounded rs))) (both_tell m rs h)
over_members_tells quant.Sum m rs h = two_listed_tell quant.SumIf m.every (says.last_line unbounded rs) (says.membership unbounded m) (last_tells rs h) (member_tells m)
over_members_tells quant.SumIf m rs h =
    two_listed_tell quant.SumIf m.every (says.last_line unbounded (but_last rs)) (says.all unbounded (says.two_parts unbounded (says.membership unbounded m) (says.last_line unbounded rs))) (last_tells (but_last rs) (but_last_tell rs h)) (both_tell m rs h)
over_members_tells quant.For m rs h = refl
over_members_tells quant.Maximum m rs h = refl
over_members_tells quant.Minimum m rs h = refl

over_found_tells : (q : Quant) (o : Option Member) (rs : List Reading) → TellEach rs → TellsTree (says.over_found unbounded q o rs)
over_found_tells q None rs h = refl
over_found_tells q (Some m) rs h = over_members_tells q m rs h

over_relation_tells : (ms : List Member) (q : Quant) (r : Relation) (rs : List Reading) → TellEach rs → TellsTree (says.over_relation unbounded ms q r rs)
over_relation_tells ms q (relation.Declared r) rs h = listed_tells q r (says.lines unbounded rs) (lines_tell rs h)
over_relation_tells ms q (relation.Inferred n) rs h = over_found_tells q (slice_get ms n) rs h
over_relation_tells ms q relation.Unnamed rs h = refl

written_tells : (n : Option ℤ) → TellsTree (says.written unbounded n)
written_tells None = unnamed_tells
written_tells (Some n) = literal_tells (value.Num n)

operation_lines_tell : (k : OpKind) (rs : List Reading) → TellEach rs → TellsTree (says.operation unbounded k (says.lines unbounded rs))
operation_lines_tell k rs h = operation_tells k (says.lines unbounded rs) (lines_tell rs h)

operation_call_tells : (k : OpKind) (n : Option ℤ) (rs : List Reading) → TellEach rs → TellsTree (says.operation_call unbounded k n rs)
operation_call_tells op.Round n rs h = operation_tells op.Round (says.with_part unbounded (says.lines unbounded rs) (says.written unbounded n)) (part_tells (says.lines unbounded rs) (says.written unbounded n) (lines_tell rs h) (written_tells n))
operation_call_tells k n rs h = operation_lines_tell k rs h

last_one_tells : (f : Expr → Expr) → Rises f → (rs : List Reading) → TellEach rs → TellsTree (says.one unbounded f (says.last_line unbounded rs))
last_one_tells f rises rs h = one_tells f rises (says.last_line unbounded rs).measure (says.last_line unbounded rs).tree (last_tells rs h)

called_tells : (ms : List Member) (f : Function) (a : Arguments) → TellEach a.lines → TellsTree (says.called unbounded ms f a)
called_tells ms (function.Op k) a h = operation_call_tells k a.number a.lines h
called_tells ms function.Certain a h = last_one_tells (λ e. expr.Certain e) certain_rises a.lines h
called_tells ms function.Known a h = last_one_tells (λ e. expr.Known e) known_rises a.lines h
called_tells ms (function.Over q) a h = over_relation_tells ms q a.relation a.lines h
called_tells ms (function.Window k) a h = over_tells (λ es. expr.Window k es) (window_grows k) (says.lines unbounded a.lines).measure (says.lines unbounded a.lines).trees (lines_tell a.lines h)
called_tells ms (function.Rolling always) a h = last_one_tells (λ e. expr.Rolling always (says.days a.number) e) (rolling_rises always (says.days a.number)) a.lines h

-- ---- the grammar

module _ (ns : Names) where
  mutual
    pub tells : {p : Part} {ts : List Lexeme} {x : Reading} {rest : List Lexeme} → Spells unbounded ns p ts x rest → TellsTree x
    tells (g.Spells.one d) = tells d
    tells (g.Spells.compared {x = x} {y = y} k h d f) = between_tells k x y (tells d) (tells f)
    tells (g.Spells.term d) = tells d
    tells (g.Spells.plus {x = x} {y = y} h d f) = between_tells op.Add x y (tells d) (tells f)
    tells (g.Spells.less {x = x} {y = y} h d f) = between_tells op.Sub x y (tells d) (tells f)
    tells (g.Spells.factor d) = tells d
    tells (g.Spells.times {x = x} {y = y} h d f) = between_tells op.Mul x y (tells d) (tells f)
    tells (g.Spells.over {x = x} {y = y} h d f) = between_tells op.Div x y (tells d) (tells f)
    tells (g.Spells.number h n is) = literal_tells (value.Num n)
    tells (g.Spells.negative h k n is) = literal_tells (value.Num n)
    tells (g.Spells.date h d is) = literal_tells (value.Day d)
    tells (g.Spells.text h) = literal_tells _
    tells (g.Spells.yes h) = literal_tells _
    tells (g.Spells.no h) = literal_tells _
    tells (g.Spells.uncertain h) = literal_tells _
    tells (g.Spells.negate {x = x} h k d) = nest (says.operation unbounded op.Neg (says.one_part unbounded x)) (operation_tells op.Neg (says.one_part unbounded x) (one_part_tells x (tells d)))
    tells (g.Spells.deny {x = x} h d) = nest (says.denial unbounded x) (denial_tells x (tells d))
    tells (g.Spells.call {a = a} f h k d l) = nest (says.called unbounded ns.members f a) (called_tells ns.members f a (tells_arguments d tt))
    tells (g.Spells.brackets {x = x} h d l) = nest x (tells d)
    tells (g.Spells.all {x = x} {p = p} h d f l) = nest (says.all unbounded p) (all_tells p (tells_more f (one_part_tells x (tells d))))
    tells (g.Spells.any {x = x} {p = p} h d f l) = nest (says.any unbounded p) (any_tells p (tells_more f (one_part_tells x (tells d))))
    tells (g.Spells.phrase h i n is) = operand_tells _
    tells (g.Spells.unnamed h is) = unnamed_tells

    tells_more : {j : Bool} {ts : List Lexeme} {p q : Parts} {rest : List Lexeme} → SpellsMore unbounded ns j ts p q rest → TellsAll p.measure p.trees → TellsAll q.measure q.trees
    tells_more (g.SpellsMore.last {p = p} {x = x} h d) = λ k. part_tells p x k (tells d)
    tells_more (g.SpellsMore.more {p = p} {x = x} h d f) = λ k. tells_more f (part_tells p x k (tells d))

    tells_argument : {f : Function} {n : ℕ} {ts : List Lexeme} {a z : Arguments} {rest : List Lexeme} → SpellsArgument unbounded ns f n ts a z rest → TellEach a.lines → TellEach z.lines
    tells_argument (g.SpellsArgument.as_line {a = a} {x = x} h d) = λ k. each_more a.lines x k (tells d)
    tells_argument (g.SpellsArgument.as_relation h x is) = λ k. k
    tells_argument (g.SpellsArgument.as_number h k z is) = λ l. l

    tells_arguments : {f : Function} {n : ℕ} {ts : List Lexeme} {a z : Arguments} {rest : List Lexeme} → SpellsArguments unbounded ns f n ts a z rest → TellEach a.lines → TellEach z.lines
    tells_arguments (g.SpellsArguments.last_argument d h) = λ k. tells_argument d k
    tells_arguments (g.SpellsArguments.more_arguments d h f) = λ k. tells_arguments f (tells_argument d k)

pub is_measured_holds : IsMeasured
is_measured_holds ns p ts x rest d = tells ns d
