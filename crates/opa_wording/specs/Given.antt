-- The rules that the grammar of blocks gives.
use Rattle.std.specs.Prelude.{◌≤◌, Bool, true, false, List, [], ◌∷◌, length}
use Rattle.opa_model.specs.declared.lists.Lists.{Lists}
use Rattle.opa_model.specs.Models.{HasAttribute}
use Rattle.opa_tree.specs.declared.expr.Expr.{Expr}
use Rattle.opa_tree.specs.declared.expr.Expr.TheVariants as expr
use Rattle.opa_tree.specs.declared.expr.Row.{Row}
use Rattle.opa_tree.specs.declared.rules.Rule.{Rule}
use Rattle.opa_wording.specs.Grammatical.{IsGrammatical}

module _ (m : Lists) where
  -- a value, and the group that it asks for
  pub record IsRow (r : Row) : Type 0 where
    pub value : IsGrammatical m r.value
    pub cond : IsGrammatical m r.cond

  abbrev pub AreRows : List Row → Type 0
  AreRows [] = Unit {0}
  AreRows (r ∷ rs) = IsRow r × AreRows rs

  -- What stands below a phrase with `if`, or else after an equals sign: conditions, a tree, or a table.
  pub data IsTree : Bool → Expr → Type 0 where
    conditions : (e : Expr) → IsGrammatical m e → IsTree true e
    equation : (e : Expr) → IsGrammatical m e → IsTree false e
    table : (rows : List Row) (last : Expr) → 1 ≤ length rows → AreRows rows → IsGrammatical m last → IsTree false (expr.Table rows last)

  pub record IsRule (r : Rule) : Type 0 where
    pub attribute : HasAttribute m r.attr
    pub tree : IsTree r.by_if r.expr
