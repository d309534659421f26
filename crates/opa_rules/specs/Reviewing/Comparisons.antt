-- The comparisons of a tree whose sides are attributes and numbers.
use Rattle.std.specs.Prelude.{Bool, true, false, List, [], ◌∷◌, ◌++◌, map, flat_map, Option, Some, None, if◌then◌else◌}
use Rattle.opa_value.specs.declared.value.Value.{Value}
use Rattle.opa_value.specs.declared.value.Value.TheVariants.{Num}
use Rattle.opa_tree.specs.declared.kinds.OpKind.{OpKind}
use Rattle.opa_tree.specs.declared.kinds.OpKind.TheVariants as op
use Rattle.opa_tree.specs.declared.expr.Expr.{Expr}
use Rattle.opa_tree.specs.declared.expr.Row.{Row}
use Rattle.opa_tree.specs.declared.expr.Expr.TheOpen.{Expr-F, Row-F, Const, Attr, All, Any, Not, Op, Certain, Known, Over, Window, Rolling, Table}
use Rattle.opa_tree.specs.declared.expr.Expr.TheFolds.{fold-Expr}
use Rattle.opa_rules.specs.declared.reviewing.finding.Comparison.{Comparison}
use Rattle.opa_rules.specs.declared.reviewing.finding.Operand.{Operand}
use Rattle.opa_rules.specs.declared.reviewing.finding.Operand.TheVariants as operand

abbrev pub is_comparison : OpKind → Bool
is_comparison op.Eq = true
is_comparison op.Ne = true
is_comparison op.Lt = true
is_comparison op.Le = true
is_comparison op.Gt = true
is_comparison op.Ge = true
is_comparison _ = false

-- What a tree is as a side of a comparison, where it is an attribute or a number; and the comparisons in it.
pub record Seen : Type 0 where
  pub side : Option Operand
  pub comparisons : List Comparison

abbrev pub no_side : List Comparison → Seen
no_side cs = record { side = None; comparisons = cs }

abbrev pub literal : Value → Option Operand
literal (Num n) = Some (operand.Number n)
literal _ = None

-- an operation on these is a comparison of an attribute or a number with another
abbrev pub compared : OpKind → List (Option Operand) → List Comparison
compared k (Some a ∷ Some b ∷ []) = if is_comparison k then record { operation = k; left = a; right = b } ∷ [] else []
compared k _ = []

abbrev pub sides : List Seen → List (Option Operand)
sides xs = map (λ x. x.side) xs

abbrev pub all_in : List Seen → List Comparison
all_in xs = flat_map (λ x. x.comparisons) xs

abbrev pub seen_step : Expr-F Seen (List Comparison) → Seen
seen_step (Const v) = record { side = literal v; comparisons = [] }
seen_step (Attr a) = record { side = Some (operand.Attr a); comparisons = [] }
seen_step (All xs) = no_side (all_in xs)
seen_step (Any xs) = no_side (all_in xs)
seen_step (Not x) = no_side x.comparisons
seen_step (Op k xs) = no_side (compared k (sides xs) ++ all_in xs)
seen_step (Certain x) = no_side x.comparisons
seen_step (Known x) = no_side x.comparisons
seen_step (Over q r xs) = no_side (all_in xs)
seen_step (Window k xs) = no_side (all_in xs)
seen_step (Rolling b n x) = no_side x.comparisons
seen_step (Table rows last) = no_side (flat_map (λ x. x) rows ++ last.comparisons)

-- a row's condition comes before its value
abbrev pub seen_row : Row-F Seen (List Comparison) → List Comparison
seen_row row = row.cond.comparisons ++ row.value.comparisons

unfoldable pub seen : Expr → Seen
seen = fold-Expr Seen (List Comparison) seen_step seen_row

abbrev pub side_of : Expr → Option Operand
side_of e = (seen e).side

-- the comparisons of a tree, in written order
abbrev pub comparisons : Expr → List Comparison
comparisons e = (seen e).comparisons

abbrev pub row_comparisons : Row → List Comparison
row_comparisons row = comparisons row.cond ++ comparisons row.value
