-- Induction on trees: a fact that holds of a tree wherever it holds of its parts holds of every tree.
use Rattle.std.proofs.Common.{subst}
use Rattle.opa_tree.specs.declared.expr.Expr.{Expr}
use Rattle.opa_tree.specs.declared.expr.Row.{Row}
use Rattle.opa_tree.specs.declared.expr.Expr.TheOpen.{Expr-F}
use Rattle.opa_tree.specs.declared.expr.Expr.TheViews.{roll-Expr, roll-Row}
use Rattle.opa_tree.specs.declared.expr.Expr.TheFolds.{map-Expr, ind-Expr}

module _ (P : Expr → Type 0) where
  abbrev pub Part : Type 0
  Part = (e : Expr) × P e

  abbrev pub HasBoth : Row → Type 0
  HasBoth r = P r.cond × P r.value

  abbrev pub RowPart : Type 0
  RowPart = (r : Row) × HasBoth r

  abbrev pub without : Expr-F Part RowPart → Expr-F Expr Row
  without = map-Expr Part RowPart Expr Row (λ e. e.0) (λ r. r.0)

  pub by_parts : ((z : Expr-F Part RowPart) → P (roll-Expr (without z))) → (e : Expr) → P e
  by_parts step = ind-Expr P HasBoth (λ x y is. subst (λ v. P (roll-Expr v)) is (step y)) (λ x y is. subst (λ v. HasBoth (roll-Row v)) is (y.cond.1, y.value.1))
