-- Each form is built within bounds of what its parts say within bounds.
use Rattle.std.proofs.Common.{◌≡◌, ℕ, ℤ, ◌+◌, ◌≤◌, min, max, List, [], ◌∷◌, map, Bool, true, false, ◌&&◌, cond, Option, Some, None, slice_get, option_map, nat_le, refl, sym, ap, ◌∙◌, arith}
use Rattle.std.proofs.lemmas.Bool.{and_from}
use Rattle.opa_value.specs.declared.value.Value.{Value}
use Rattle.opa_value.specs.declared.value.Value.TheVariants as value
use Rattle.opa_model.specs.declared.ids.AttrId.{AttrId}
use Rattle.opa_model.specs.declared.ids.RelId.{RelId}
use Rattle.opa_tree.specs.declared.kinds.OpKind.{OpKind}
use Rattle.opa_tree.specs.declared.kinds.OpKind.TheVariants as op
use Rattle.opa_tree.specs.declared.kinds.Quant.{Quant}
use Rattle.opa_tree.specs.declared.kinds.Quant.TheVariants as quant
use Rattle.opa_tree.specs.declared.expr.Expr.{Expr}
use Rattle.opa_tree.specs.declared.expr.Expr.TheVariants as expr
use Rattle.opa_sentence.specs.declared.functions.Function.{Function}
use Rattle.opa_sentence.specs.declared.functions.Function.TheVariants as function
use Rattle.opa_sentence.specs.declared.measure.Measure.{Measure}
use Rattle.opa_io.specs.declared.limits.TheConstants.{MOST_DEPTH, MOST_NODES, MOST_NESTING}
use Rattle.opa_io.proofs.Bools.{and_first, and_second}
use Rattle.opa_sentence.specs.declared.names.Operand.{Operand}
use Rattle.opa_sentence.specs.declared.names.Relation.{Relation}
use Rattle.opa_sentence.specs.declared.names.Relation.TheVariants as relation
use Rattle.opa_sentence.specs.declared.names.Member.{Member}
use Rattle.opa_sentence.specs.declared.reading.Reading.{Reading}
use Rattle.opa_sentence.specs.declared.reading.Parts.{Parts}
use Rattle.opa_sentence.specs.declared.reading.Arguments.{Arguments}
use Rattle.opa_sentence.specs.Measures.{beside, above, inside, without_name, fits, capped, unbounded, bounded}
use Rattle.opa_sentence.specs.Bounding.{bound, bound_parts, bound_arguments}
use Rattle.opa_sentence.specs.Readings as says
use Rattle.opa_sentence.specs.Readings.{made, with_tree, but_last}

-- ---- measures

abbrev of : ℕ → ℕ → ℕ → Bool → Bool → Measure
of d n g a s = record { depth = d; nodes = n; nesting = g; named = a; short = s }

measure_is : (d e n m g h : ℕ) (a s : Bool) → d ≡ e → n ≡ m → g ≡ h → of d n g a s ≡ of e m h a s
measure_is d e n m g h a s p q r = ap (λ x. of x n g a s) p ∙ ap (λ x. of e x g a s) q ∙ ap (λ x. of e m x a s) r

twice : (n k : ℕ) → min (min n k) k ≡ min n k
twice n k = omega arith

next_twice : (n k : ℕ) → min (1 + min n k) k ≡ min (1 + n) k
next_twice n k = omega arith

max_twice : (m n k : ℕ) → min (max (min m k) (min n k)) k ≡ min (max m n) k
max_twice m n k = omega arith

sum_twice : (m n k : ℕ) → min (min m k + min n k) k ≡ min (m + n) k
sum_twice m n k = omega arith

capped_above : (m : Measure) → capped (above (capped m)) ≡ capped (above m)
capped_above m = measure_is _ _ _ _ _ _ m.named m.short (next_twice m.depth (MOST_DEPTH + 1)) (next_twice m.nodes (MOST_NODES + 1)) (twice m.nesting (MOST_NESTING + 1))

capped_unnamed : (m : Measure) → capped (without_name (above (capped m))) ≡ capped (without_name (above m))
capped_unnamed m = ap without_name (capped_above m)

capped_inside : (m : Measure) → capped (inside (capped m)) ≡ capped (inside m)
capped_inside m = measure_is _ _ _ _ _ _ m.named m.short (twice m.depth (MOST_DEPTH + 1)) (twice m.nodes (MOST_NODES + 1)) (next_twice m.nesting (MOST_NESTING + 1))

capped_beside : (m n : Measure) → capped (beside (capped m) (capped n)) ≡ capped (beside m n)
capped_beside m n =
    measure_is _ _ _ _ _ _ (m.named && n.named) (m.short && n.short) (max_twice m.depth n.depth (MOST_DEPTH + 1)) (sum_twice m.nodes n.nodes (MOST_NODES + 1)) (max_twice m.nesting n.nesting (MOST_NESTING + 1))

-- ---- what fits

within : (n k : ℕ) → nat_le (min n (k + 1)) k ≡ true → n ≤ k
within n k h = grind (arith, h)

is_within : (n k : ℕ) → n ≤ k → nat_le (min n (k + 1)) k ≡ true
is_within n k h = grind (arith, h)

record Fits (m : Measure) : Type 0 where
  pub named : m.named ≡ true
  pub short : m.short ≡ true
  pub depth : m.depth ≤ MOST_DEPTH
  pub nodes : m.nodes ≤ MOST_NODES
  pub nesting : m.nesting ≤ MOST_NESTING

fits_are : (m : Measure) → fits (capped m) ≡ true → Fits m
fits_are m h =
    let p = and_first (m.named && m.short) _ h in
    let q = and_second (m.named && m.short) _ h in
    let r = and_second (nat_le (min m.depth (MOST_DEPTH + 1)) MOST_DEPTH) _ q in
    record {
      named = and_first m.named m.short p;
      short = and_second m.named m.short p;
      depth = within m.depth MOST_DEPTH (and_first (nat_le (min m.depth (MOST_DEPTH + 1)) MOST_DEPTH) _ q);
      nodes = within m.nodes MOST_NODES (and_first (nat_le (min m.nodes (MOST_NODES + 1)) MOST_NODES) _ r);
      nesting = within m.nesting MOST_NESTING (and_second (nat_le (min m.nodes (MOST_NODES + 1)) MOST_NODES) _ r);
    }

are_fits : (m : Measure) → Fits m → fits (capped m) ≡ true
are_fits m h =
    and_from (m.named && m.short) _ (and_from m.named m.short h.named h.short)
    (and_from (nat_le (min m.depth (MOST_DEPTH + 1)) MOST_DEPTH) _ (is_within m.depth MOST_DEPTH h.depth)
    (and_from (nat_le (min m.nodes (MOST_NODES + 1)) MOST_NODES) _ (is_within m.nodes MOST_NODES h.nodes) (is_within m.nesting MOST_NESTING h.nesting)))

fits_above : (m : Measure) → fits (capped (above m)) ≡ true → fits (capped m) ≡ true
fits_above m h = let f = fits_are (above m) h in are_fits m (record { named = f.named; short = f.short; depth = omega (arith, f.depth); nodes = omega (arith, f.nodes); nesting = f.nesting })

fits_inside : (m : Measure) → fits (capped (inside m)) ≡ true → fits (capped m) ≡ true
fits_inside m h = let f = fits_are (inside m) h in are_fits m (record { named = f.named; short = f.short; depth = f.depth; nodes = f.nodes; nesting = omega (arith, f.nesting) })

fits_left : (m n : Measure) → fits (capped (beside m n)) ≡ true → fits (capped m) ≡ true
fits_left m n h =
    let f = fits_are (beside m n) h in
    are_fits m (record { named = and_first m.named n.named f.named; short = and_first m.short n.short f.short; depth = omega (arith, f.depth); nodes = omega (arith, f.nodes); nesting = omega (arith, f.nesting) })

fits_right : (m n : Measure) → fits (capped (beside m n)) ≡ true → fits (capped n) ≡ true
fits_right m n h =
    let f = fits_are (beside m n) h in
    are_fits n (record { named = and_second m.named n.named f.named; short = and_second m.short n.short f.short; depth = omega (arith, f.depth); nodes = omega (arith, f.nodes); nesting = omega (arith, f.nesting) })

-- ---- trees that are kept

kept_twice : {A B : Type 0} (f : A → B) (t : Option A) (outer again inner : Bool) → again ≡ outer → (outer ≡ true → inner ≡ true) → cond outer (option_map f t) None ≡ option_map f (cond again (cond inner t None) None)
kept_twice {A = A} f t true again inner e h =
    ap (λ b. option_map f (cond b t None)) (sym (h refl)) ∙ ap (λ b. option_map f (cond b (cond inner t None) None)) (sym e)
kept_twice f t false again inner e h = ap (λ b. option_map f (cond b (cond inner t None) None)) (sym e)

same_twice : {A : Type 0} (t : Option A) (outer again inner : Bool) → again ≡ outer → (outer ≡ true → inner ≡ true) → cond outer t None ≡ cond again (cond inner t None) None
same_twice {A = A} t true again inner e h = ap (λ b. cond b t None) (sym (h refl)) ∙ ap (λ b. cond b (cond inner t None) None) (sym e)
same_twice t false again inner e h = ap (λ b. cond b (cond inner t None) None) (sym e)

with_twice : (ts : Option (List Expr)) (t : Option Expr) (outer again one two : Bool) → again ≡ outer → (outer ≡ true → one ≡ true) → (outer ≡ true → two ≡ true) → cond outer (with_tree ts t) None ≡ cond again (with_tree (cond one ts None) (cond two t None)) None
with_twice ts t true again one two e h k =
    ap (λ b. with_tree (cond b ts None) t) (sym (h refl)) ∙ ap (λ b. with_tree (cond one ts None) (cond b t None)) (sym (k refl)) ∙ ap (λ b. cond b (with_tree (cond one ts None) (cond two t None)) None) (sym e)
with_twice ts t false again one two e h k = ap (λ b. cond b (with_tree (cond one ts None) (cond two t None)) None) (sym e)

reading_is : (t u : Option Expr) (m n : Measure) → t ≡ u → m ≡ n → made m t ≡ made n u
reading_is t u m n p q = ap (made m) p ∙ ap (λ x. made x u) q

abbrev parts_of : Measure → Option (List Expr) → Parts
parts_of m ts = record { trees = ts; measure = m }

parts_are : (t u : Option (List Expr)) (m n : Measure) → t ≡ u → m ≡ n → parts_of m t ≡ parts_of n u
parts_are t u m n p q = ap (parts_of m) p ∙ ap (λ x. parts_of x u) q

-- ---- forms

pub bound_literal : (v : Value) → bound (says.literal unbounded v) ≡ says.literal bounded v
bound_literal v = refl

pub bound_attribute : (a : AttrId) → bound (says.attribute unbounded a) ≡ says.attribute bounded a
bound_attribute a = refl

pub bound_unnamed : bound (says.unnamed unbounded) ≡ says.unnamed bounded
bound_unnamed = refl

pub bound_no_parts : bound_parts (says.no_parts unbounded) ≡ says.no_parts bounded
bound_no_parts = refl

pub bound_with : (p : Parts) (x : Reading) → bound_parts (says.with_part unbounded p x) ≡ says.with_part bounded (bound_parts p) (bound x)
bound_with p x =
    parts_are _ _ _ _
    (with_twice p.trees x.tree (fits (capped (beside p.measure x.measure))) (fits (capped (beside (capped p.measure) (capped x.measure)))) (fits (capped p.measure)) (fits (capped x.measure)) (ap fits (capped_beside p.measure x.measure))
    (fits_left p.measure x.measure) (fits_right p.measure x.measure))
    (sym (capped_beside p.measure x.measure))

pub bound_over : (f : List Expr → Expr) (p : Parts) → bound (says.over unbounded f p) ≡ says.over bounded f (bound_parts p)
bound_over f p =
    reading_is _ _ _ _ (kept_twice f p.trees (fits (capped (above p.measure))) (fits (capped (above (capped p.measure)))) (fits (capped p.measure)) (ap fits (capped_above p.measure)) (fits_above p.measure)) (sym (capped_above p.measure))

pub bound_one : (f : Expr → Expr) (x : Reading) → bound (says.one unbounded f x) ≡ says.one bounded f (bound x)
bound_one f x =
    reading_is _ _ _ _ (kept_twice f x.tree (fits (capped (above x.measure))) (fits (capped (above (capped x.measure)))) (fits (capped x.measure)) (ap fits (capped_above x.measure)) (fits_above x.measure)) (sym (capped_above x.measure))

pub bound_nested : (x : Reading) → bound (says.nested unbounded x) ≡ says.nested bounded (bound x)
bound_nested x =
    reading_is _ _ _ _ (same_twice x.tree (fits (capped (inside x.measure))) (fits (capped (inside (capped x.measure)))) (fits (capped x.measure)) (ap fits (capped_inside x.measure)) (fits_inside x.measure)) (sym (capped_inside x.measure))

not_named : (b : Bool) (t : Option Expr) → t ≡ None → cond b t None ≡ None
not_named true t e = e
not_named false t e = refl

pub bound_over_unnamed : (p : Parts) → bound (says.over_unnamed unbounded p) ≡ says.over_unnamed bounded (bound_parts p)
bound_over_unnamed p = reading_is _ _ _ _ (not_named (fits (capped (without_name (above p.measure)))) None refl) (sym (capped_unnamed p.measure))

pub bound_one_part : (x : Reading) → bound_parts (says.one_part unbounded x) ≡ says.one_part bounded (bound x)
bound_one_part x = bound_with (says.no_parts unbounded) x

pub bound_two_parts : (x y : Reading) → bound_parts (says.two_parts unbounded x y) ≡ says.two_parts bounded (bound x) (bound y)
bound_two_parts x y = bound_with (says.one_part unbounded x) y ∙ ap (λ p. says.with_part bounded p (bound y)) (bound_one_part x)

pub bound_all : (p : Parts) → bound (says.nested unbounded (says.all unbounded p)) ≡ says.nested bounded (says.all bounded (bound_parts p))
bound_all p = bound_nested (says.all unbounded p) ∙ ap (says.nested bounded) (bound_over (λ es. expr.All es) p)

pub bound_any : (p : Parts) → bound (says.nested unbounded (says.any unbounded p)) ≡ says.nested bounded (says.any bounded (bound_parts p))
bound_any p = bound_nested (says.any unbounded p) ∙ ap (says.nested bounded) (bound_over (λ es. expr.Any es) p)

pub bound_between : (k : OpKind) (x y : Reading) → bound (says.between unbounded k x y) ≡ says.between bounded k (bound x) (bound y)
bound_between k x y = bound_over (λ es. expr.Op k es) (says.two_parts unbounded x y) ∙ ap (says.operation bounded k) (bound_two_parts x y)

pub bound_denial : (x : Reading) → bound (says.denial unbounded x) ≡ says.denial bounded (bound x)
bound_denial x = bound_one (λ e. expr.Not e) x

pub bound_deny : (x : Reading) → bound (says.nested unbounded (says.denial unbounded x)) ≡ says.nested bounded (says.denial bounded (bound x))
bound_deny x = bound_nested (says.denial unbounded x) ∙ ap (says.nested bounded) (bound_denial x)

pub bound_negate : (x : Reading) → bound (says.nested unbounded (says.operation unbounded op.Neg (says.one_part unbounded x))) ≡ says.nested bounded (says.operation bounded op.Neg (says.one_part bounded (bound x)))
bound_negate x =
    bound_nested (says.operation unbounded op.Neg (says.one_part unbounded x))
    ∙ ap (says.nested bounded) (bound_over (λ es. expr.Op op.Neg es) (says.one_part unbounded x) ∙ ap (says.operation bounded op.Neg) (bound_one_part x))

operand_by : (a : AttrId) (d : Bool) → bound (cond d (says.denial unbounded (says.attribute unbounded a)) (says.attribute unbounded a)) ≡ cond d (says.denial bounded (says.attribute bounded a)) (says.attribute bounded a)
operand_by a true = bound_denial (says.attribute unbounded a)
operand_by a false = bound_attribute a

pub bound_operand : (o : Option Operand) → bound (says.operand unbounded o) ≡ says.operand bounded o
bound_operand None = bound_unnamed
bound_operand (Some o) = operand_by o.attr o.denied

-- ---- calls

bound_last : (rs : List Reading) → bound (says.last_line unbounded rs) ≡ says.last_line bounded (map bound rs)
bound_last [] = bound_unnamed
bound_last (r ∷ []) = refl
bound_last (r ∷ s ∷ rs) = bound_last (s ∷ rs)

bound_but_last : (rs : List Reading) → map bound (but_last rs) ≡ but_last (map bound rs)
bound_but_last [] = refl
bound_but_last (r ∷ []) = refl
bound_but_last (r ∷ s ∷ rs) = ap (λ xs. bound r ∷ xs) (bound_but_last (s ∷ rs))

bound_gathered : (p : Parts) (rs : List Reading) → bound_parts (says.gathered unbounded p rs) ≡ says.gathered bounded (bound_parts p) (map bound rs)
bound_gathered p [] = refl
bound_gathered p (r ∷ rs) = bound_gathered (says.with_part unbounded p r) rs ∙ ap (λ q. says.gathered bounded q (map bound rs)) (bound_with p r)

bound_lines : (rs : List Reading) → bound_parts (says.lines unbounded rs) ≡ says.lines bounded (map bound rs)
bound_lines rs = bound_gathered (says.no_parts unbounded) rs

bound_membership : (m : Member) → bound (says.membership unbounded m) ≡ says.membership bounded m
bound_membership m = refl

bound_listed : (q : Quant) (r : RelId) (p : Parts) → bound (says.listed unbounded q r p) ≡ says.listed bounded q r (bound_parts p)
bound_listed q r p = bound_over (λ es. expr.Over q r es) p

-- a member that passes a test
bound_both : (m : Member) (rs : List Reading) → bound (says.all unbounded (says.two_parts unbounded (says.membership unbounded m) (says.last_line unbounded rs))) ≡ says.all bounded (says.two_parts bounded (says.membership bounded m) (says.last_line bounded (map bound rs)))
bound_both m rs =
    bound_over (λ es. expr.All es) (says.two_parts unbounded (says.membership unbounded m) (says.last_line unbounded rs))
    ∙ ap (says.all bounded) (bound_two_parts (says.membership unbounded m) (says.last_line unbounded rs) ∙ ap (says.two_parts bounded (says.membership bounded m)) (bound_last rs))

bound_either : (m : Member) (rs : List Reading) → bound (says.any unbounded (says.two_parts unbounded (says.denial unbounded (says.membership unbounded m)) (says.last_line unbounded rs)))
    ≡ says.any bounded (says.two_parts bounded (says.denial bounded (says.membership bounded m)) (says.last_line bounded (map bound rs)))
bound_either m rs =
    bound_over (λ es. expr.Any es) (says.two_parts unbounded (says.denial unbounded (says.membership unbounded m)) (says.last_line unbounded rs))
    ∙ ap (says.any bounded) (bound_two_parts (says.denial unbounded (says.membership unbounded m)) (says.last_line unbounded rs)
    ∙ ap (says.two_parts bounded (bound (says.denial unbounded (says.membership unbounded m)))) (bound_last rs)
    ∙ ap (λ x. says.two_parts bounded x (says.last_line bounded (map bound rs))) (bound_denial (says.membership unbounded m)))

bound_one_listed : (q : Quant) (r : RelId) (x y : Reading) → bound x ≡ y → bound (says.listed unbounded q r (says.one_part unbounded x)) ≡ says.listed bounded q r (says.one_part bounded y)
bound_one_listed q r x y e = bound_listed q r (says.one_part unbounded x) ∙ ap (says.listed bounded q r) (bound_one_part x ∙ ap (says.one_part bounded) e)

bound_two_listed : (q : Quant) (r : RelId) (x y u v : Reading) → bound x ≡ u → bound y ≡ v → bound (says.listed unbounded q r (says.two_parts unbounded x y)) ≡ says.listed bounded q r (says.two_parts bounded u v)
bound_two_listed q r x y u v e f =
    bound_listed q r (says.two_parts unbounded x y) ∙ ap (says.listed bounded q r) (bound_two_parts x y ∙ ap (λ z. says.two_parts bounded z (bound y)) e ∙ ap (says.two_parts bounded u) f)

bound_unnamed_lines : (rs : List Reading) → bound (says.over_unnamed unbounded (says.lines unbounded rs)) ≡ says.over_unnamed bounded (says.lines bounded (map bound rs))
bound_unnamed_lines rs = bound_over_unnamed (says.lines unbounded rs) ∙ ap (says.over_unnamed bounded) (bound_lines rs)

bound_over_members : (q : Quant) (m : Member) (rs : List Reading) → bound (says.over_members unbounded q m rs) ≡ says.over_members bounded q m (map bound rs)
bound_over_members quant.ForAll m rs = bound_one_listed quant.ForAll m.every _ _ (bound_either m rs)
bound_over_members quant.Exists m rs = bound_one_listed quant.Exists m.every (says.all unbounded (says.two_parts unbounded (says.membership unbounded m) (says.last_line unbounded rs))) (says.all bounded (says.two_parts bounded (says.membership bounded m) (says.last_line bounded (map bound rs)))) (bound_both m rs)
bound_over_members quant.Count m rs = bound_one_listed quant.CountIf m.every (says.membership unbounded m) (says.membership bounded m) (bound_membership m)
bound_over_members quant.CountIf m rs = bound_one_listed quant.CountIf m.every (says.all unbounded (says.two_parts unbounded (says.membership unbounded m) (says.last_line unbounded rs))) (says.all bounded (says.two_parts bounded (says.membership bounded m) (says.last_line bounded (map bound rs)))) (bound_both m rs)
bound_over_members quant.Sum m rs = bound_two_listed quant.SumIf m.every (says.last_line unbounded rs) (says.membership unbounded m) (says.last_line bounded (map bound rs)) (says.membership bounded m) (bound_last rs) (bound_membership m)
bound_over_members quant.SumIf m rs = bound_two_listed quant.SumIf m.every (says.last_line unbounded (but_last rs)) (says.all unbounded (says.two_parts unbounded (says.membership unbounded m) (says.last_line unbounded rs))) (says.last_line bounded (but_last (map bound rs))) (says.all bounded (says.two_parts bounded (says.membership bounded m) (says.last_line bounded (map bound rs)))) (bound_last (but_last rs) ∙ ap (says.last_line bounded) (bound_but_last rs)) (bound_both m rs)
bound_over_members quant.For m rs = bound_unnamed_lines rs
bound_over_members quant.Maximum m rs = bound_unnamed_lines rs
bound_over_members quant.Minimum m rs = bound_unnamed_lines rs

bound_over_found : (q : Quant) (o : Option Member) (rs : List Reading) → bound (says.over_found unbounded q o rs) ≡ says.over_found bounded q o (map bound rs)
bound_over_found q None rs = bound_unnamed_lines rs
bound_over_found q (Some m) rs = bound_over_members q m rs

bound_over_relation : (ms : List Member) (q : Quant) (r : Relation) (rs : List Reading) → bound (says.over_relation unbounded ms q r rs) ≡ says.over_relation bounded ms q r (map bound rs)
bound_over_relation ms q (relation.Declared r) rs = bound_listed q r (says.lines unbounded rs) ∙ ap (says.listed bounded q r) (bound_lines rs)
bound_over_relation ms q (relation.Inferred n) rs = bound_over_found q (slice_get ms n) rs
bound_over_relation ms q relation.Unnamed rs = bound_unnamed_lines rs

bound_written : (n : Option ℤ) → bound (says.written unbounded n) ≡ says.written bounded n
bound_written None = bound_unnamed
bound_written (Some n) = bound_literal (value.Num n)

bound_operation : (k : OpKind) (rs : List Reading) → bound (says.operation unbounded k (says.lines unbounded rs)) ≡ says.operation bounded k (says.lines bounded (map bound rs))
bound_operation k rs = bound_over (λ es. expr.Op k es) (says.lines unbounded rs) ∙ ap (says.operation bounded k) (bound_lines rs)

bound_operation_call : (k : OpKind) (n : Option ℤ) (rs : List Reading) → bound (says.operation_call unbounded k n rs) ≡ says.operation_call bounded k n (map bound rs)
bound_operation_call op.Round n rs =
    bound_over (λ es. expr.Op op.Round es) (says.with_part unbounded (says.lines unbounded rs) (says.written unbounded n))
    ∙ ap (says.operation bounded op.Round) (bound_with (says.lines unbounded rs) (says.written unbounded n) ∙ ap (λ p. says.with_part bounded p (bound (says.written unbounded n))) (bound_lines rs) ∙ ap (says.with_part bounded (says.lines bounded (map bound rs))) (bound_written n))
bound_operation_call k n rs = bound_operation k rs

bound_last_one : (f : Expr → Expr) (rs : List Reading) → bound (says.one unbounded f (says.last_line unbounded rs)) ≡ says.one bounded f (says.last_line bounded (map bound rs))
bound_last_one f rs = bound_one f (says.last_line unbounded rs) ∙ ap (says.one bounded f) (bound_last rs)

bound_called : (ms : List Member) (f : Function) (a : Arguments) → bound (says.called unbounded ms f a) ≡ says.called bounded ms f (bound_arguments a)
bound_called ms (function.Op k) a = bound_operation_call k a.number a.lines
bound_called ms function.Certain a = bound_last_one (λ e. expr.Certain e) a.lines
bound_called ms function.Known a = bound_last_one (λ e. expr.Known e) a.lines
bound_called ms (function.Over q) a = bound_over_relation ms q a.relation a.lines
bound_called ms (function.Window k) a = bound_over (λ es. expr.Window k es) (says.lines unbounded a.lines) ∙ ap (says.windowed bounded k) (bound_lines a.lines)
bound_called ms (function.Rolling always) a = bound_last_one (λ e. expr.Rolling always (says.days a.number) e) a.lines

pub bound_call : (ms : List Member) (f : Function) (a : Arguments) → bound (says.call_of unbounded ms f a) ≡ says.call_of bounded ms f (bound_arguments a)
bound_call ms f a = bound_nested (says.called unbounded ms f a) ∙ ap (says.nested bounded) (bound_called ms f a)
