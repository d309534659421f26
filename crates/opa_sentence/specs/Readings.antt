-- What a part of a line says: its tree, where it is kept, and its measure. Each form is built of its parts, within bounds.
use Rattle.std.specs.Prelude.{ℕ, ◌%◌, ◌/◌, ◌==◌, ℤ, pos, negsuc, Bool, true, ◌&&◌, nat_le, List, [], ◌∷◌, ◌++◌, length, slice_get, Option, Some, None, if◌then◌else◌}
use Rattle.std.specs.Option.{option_map}
use Rattle.opa_value.specs.declared.value.Value.{Value}
use Rattle.opa_value.specs.declared.value.Value.TheVariants as value
use Rattle.opa_model.specs.declared.ids.AttrId.{AttrId}
use Rattle.opa_model.specs.declared.ids.RelId.{RelId}
use Rattle.opa_tree.specs.declared.kinds.OpKind.{OpKind}
use Rattle.opa_tree.specs.declared.kinds.OpKind.TheVariants as op
use Rattle.opa_tree.specs.declared.kinds.Quant.{Quant}
use Rattle.opa_tree.specs.declared.kinds.Quant.TheVariants as quant
use Rattle.opa_tree.specs.declared.kinds.WinKind.{WinKind}
use Rattle.opa_tree.specs.declared.expr.Expr.{Expr}
use Rattle.opa_tree.specs.declared.expr.Expr.TheVariants as expr
use Rattle.opa_tree.specs.Trees.{depth}
use Rattle.opa_sentence.specs.declared.functions.Function.{Function}
use Rattle.opa_sentence.specs.declared.functions.Function.TheVariants as function
use Rattle.opa_sentence.specs.declared.measure.Measure.{Measure}
use Rattle.opa_io.specs.declared.limits.TheConstants.{MOST_TEXT}
use Rattle.opa_sentence.specs.declared.names.Operand.{Operand}
use Rattle.opa_sentence.specs.declared.names.Relation.{Relation}
use Rattle.opa_sentence.specs.declared.names.Relation.TheVariants as relation
use Rattle.opa_sentence.specs.declared.names.Member.{Member}
use Rattle.opa_sentence.specs.declared.reading.Reading.{Reading}
use Rattle.opa_sentence.specs.declared.reading.Parts.{Parts}
use Rattle.opa_sentence.specs.declared.reading.Arguments.{Arguments}
use Rattle.opa_sentence.specs.Measures.{nodes, of_none, of_leaf, beside, above, inside, without_name, Bounds}

abbrev pub is_short : Value → Bool
is_short (value.Words text) = nat_le (length text) MOST_TEXT
is_short v = true

abbrev pub with_tree : Option (List Expr) → Option Expr → Option (List Expr)
with_tree None t = None
with_tree (Some ts) None = None
with_tree (Some ts) (Some t) = Some (ts ++ t ∷ [])

-- the lines but the last
abbrev pub but_last : List Reading → List Reading
but_last [] = []
but_last (r ∷ []) = []
but_last (r ∷ s ∷ rs) = r ∷ but_last (s ∷ rs)

-- of a size in ten-thousandths, where it is a whole number of days up to 36,600; 0 where it isn't
abbrev pub days_of_size : ℕ → ℕ
days_of_size n = if (n % 10_000 == 0) && nat_le n 366_000_000 then n / 10_000 else 0

abbrev pub days_of_count : ℤ → ℕ
days_of_count (pos n) = days_of_size n
days_of_count (negsuc n) = 0

abbrev pub days : Option ℤ → ℕ
days None = 0
days (Some n) = days_of_count n

abbrev pub made : Measure → Option Expr → Reading
made m t = record { tree = t; measure = m }

module _ (b : Bounds) where
  -- the tree or trees, where their measure is kept
  abbrev pub kept : {A : Type 0} → Measure → Option A → Option A
  kept m t = if b.keeps m then t else None

  -- ---- trees without parts

  abbrev pub literal_measure : Value → Measure
  literal_measure v = b.tells (record of_leaf { short = is_short v })

  abbrev pub literal : Value → Reading
  literal v = made (literal_measure v) (kept (literal_measure v) (Some (expr.Const v)))

  -- an operand that isn't declared, and one that is
  abbrev pub unnamed : Reading
  unnamed = made (b.tells (without_name of_leaf)) None

  abbrev pub attribute : AttrId → Reading
  attribute a = made (b.tells of_leaf) (kept (b.tells of_leaf) (Some (expr.Attr a)))

  -- ---- a tree over parts

  abbrev pub no_parts : Parts
  no_parts = record { trees = Some []; measure = of_none }

  abbrev pub with_part : Parts → Reading → Parts
  with_part p r = record { trees = kept (b.tells (beside p.measure r.measure)) (with_tree p.trees r.tree); measure = b.tells (beside p.measure r.measure) }

  abbrev pub one_part : Reading → Parts
  one_part r = with_part no_parts r

  abbrev pub two_parts : Reading → Reading → Parts
  two_parts q r = with_part (one_part q) r

  abbrev pub over : (List Expr → Expr) → Parts → Reading
  over f p = made (b.tells (above p.measure)) (option_map f (kept (b.tells (above p.measure)) p.trees))

  abbrev pub one : (Expr → Expr) → Reading → Reading
  one f r = made (b.tells (above r.measure)) (option_map f (kept (b.tells (above r.measure)) r.tree))

  -- a part inside a bracket, a call or a prefix
  abbrev pub nested : Reading → Reading
  nested r = made (b.tells (inside r.measure)) (kept (b.tells (inside r.measure)) r.tree)

  abbrev pub all : Parts → Reading
  all p = over (λ es. expr.All es) p

  abbrev pub any : Parts → Reading
  any p = over (λ es. expr.Any es) p

  abbrev pub operation : OpKind → Parts → Reading
  operation k p = over (λ es. expr.Op k es) p

  abbrev pub denial : Reading → Reading
  denial r = one (λ e. expr.Not e) r

  -- what an operand's phrase stands for
  abbrev pub operand : Option Operand → Reading
  operand None = unnamed
  operand (Some o) = if o.denied then denial (attribute o.attr) else attribute o.attr

  -- an operation between two operands
  abbrev pub between : OpKind → Reading → Reading → Reading
  between k q r = operation k (two_parts q r)

  -- ---- calls

  -- the last of lines
  abbrev pub last_line : List Reading → Reading
  last_line [] = unnamed
  last_line (r ∷ []) = r
  last_line (r ∷ s ∷ rs) = last_line (s ∷ rs)

  abbrev pub gathered : Parts → List Reading → Parts
  gathered p [] = p
  gathered p (r ∷ rs) = gathered (with_part p r) rs

  abbrev pub lines : List Reading → Parts
  lines rs = gathered no_parts rs

  -- the number that is written among the arguments
  abbrev pub written : Option ℤ → Reading
  written None = unnamed
  written (Some n) = literal (value.Num n)

  -- a quantifier over a relation that isn't declared, or that no quantifier of this sort takes
  abbrev pub over_unnamed : Parts → Reading
  over_unnamed p = made (b.tells (without_name (above p.measure))) None

  abbrev pub listed : Quant → RelId → Parts → Reading
  listed q r p = over (λ es. expr.Over q r es) p

  abbrev pub windowed : WinKind → Parts → Reading
  windowed k p = over (λ es. expr.Window k es) p

  abbrev pub member_measure : Member → Measure
  member_measure m = b.tells (record of_leaf { depth = depth m.expr; nodes = nodes m.expr })

  -- the tree that a member meets
  abbrev pub membership : Member → Reading
  membership m = made (member_measure m) (kept (member_measure m) (Some m.expr))

  -- a quantifier over the members of an inferred relation
  abbrev pub over_members : Quant → Member → List Reading → Reading
  over_members quant.ForAll m rs = listed quant.ForAll m.every (one_part (any (two_parts (denial (membership m)) (last_line rs))))
  over_members quant.Exists m rs = listed quant.Exists m.every (one_part (all (two_parts (membership m) (last_line rs))))
  over_members quant.Count m rs = listed quant.CountIf m.every (one_part (membership m))
  over_members quant.CountIf m rs = listed quant.CountIf m.every (one_part (all (two_parts (membership m) (last_line rs))))
  over_members quant.Sum m rs = listed quant.SumIf m.every (two_parts (last_line rs) (membership m))
  over_members quant.SumIf m rs = listed quant.SumIf m.every (two_parts (last_line (but_last rs)) (all (two_parts (membership m) (last_line rs))))
  over_members quant.For m rs = over_unnamed (lines rs)
  over_members quant.Maximum m rs = over_unnamed (lines rs)
  over_members quant.Minimum m rs = over_unnamed (lines rs)

  abbrev pub over_found : Quant → Option Member → List Reading → Reading
  over_found q None rs = over_unnamed (lines rs)
  over_found q (Some m) rs = over_members q m rs

  -- a quantifier over a relation
  abbrev pub over_relation : List Member → Quant → Relation → List Reading → Reading
  over_relation ms q (relation.Declared r) rs = listed q r (lines rs)
  over_relation ms q (relation.Inferred n) rs = over_found q (slice_get ms n) rs
  over_relation ms q relation.Unnamed rs = over_unnamed (lines rs)

  abbrev pub operation_call : OpKind → Option ℤ → List Reading → Reading
  operation_call op.Round n rs = operation op.Round (with_part (lines rs) (written n))
  operation_call k n rs = operation k (lines rs)

  abbrev pub called : List Member → Function → Arguments → Reading
  called ms (function.Op k) a = operation_call k a.number a.lines
  called ms function.Certain a = one (λ e. expr.Certain e) (last_line a.lines)
  called ms function.Known a = one (λ e. expr.Known e) (last_line a.lines)
  called ms (function.Over q) a = over_relation ms q a.relation a.lines
  called ms (function.Window k) a = windowed k (lines a.lines)
  called ms (function.Rolling always) a = one (λ e. expr.Rolling always (days a.number) e) (last_line a.lines)

  -- a call with its bracket is nested once
  abbrev pub call_of : List Member → Function → Arguments → Reading
  call_of ms f a = nested (called ms f a)

-- what stands between the brackets of a call, one argument after another
abbrev pub no_arguments : Arguments
no_arguments = record { relation = relation.Unnamed; number = None; lines = [] }
