-- The needs of points and trees over the determination of a case, without ranks.
use Rattle.std.specs.Prelude.{ℕ, suc, List, [], ◌∷◌, ◌++◌, if◌then◌else◌}
use Rattle.opa_value.specs.Truth.{is_true}
use Rattle.opa_model.specs.declared.ids.AttrId.{AttrId}
use Rattle.opa_model.specs.declared.ids.RelId.{RelId}
use Rattle.opa_cells.specs.declared.instance.InstanceId.{InstanceId}
use Rattle.opa_tree.specs.declared.kinds.Quant.{Quant}
use Rattle.opa_tree.specs.declared.kinds.Quant.TheVariants as quant
use Rattle.opa_tree.specs.declared.expr.Expr.{Expr}
use Rattle.opa_tree.specs.declared.expr.Row.{Row}
use Rattle.opa_case.specs.Shapes.{Shape}
use Rattle.opa_mean.specs.Looks.{Look}
use Rattle.opa_mean.specs.Mean.{Base, Facts, look_of, mean}
use Rattle.opa_mean.specs.Meaning.{value}
use Rattle.opa_mean.specs.Needs.{asked, if_unknown, cond_needs, needs, needs_by}
use Rattle.opa_mean.specs.Uses.{Use, Uses, on_date_uses, in_window_uses}

module _ (s : Shape) (l : Look) (list_need : RelId → InstanceId → Use) (at_point : AttrId → InstanceId → ℕ → List Use) where
  -- the needs of a tree where it is unknown
  abbrev pub open_needs : Expr → Uses
  open_needs e enclosing d = if_unknown (value s l e enclosing d) (needs s l list_need at_point e enclosing d)

  -- of a member: of the operand; of a test, and of the number where the test is true
  abbrev pub member_needs : Quant → List Expr → Uses
  member_needs quant.SumIf (number ∷ test ∷ []) enclosing d = open_needs test enclosing d ++ (if is_true (value s l test enclosing d) then open_needs number enclosing d else [])
  member_needs q (x ∷ []) enclosing d = open_needs x enclosing d
  member_needs q _ enclosing d = []

  -- of the dates, and of what is looked at on the days that they tell
  abbrev pub span_needs : List Expr → Uses
  span_needs (date ∷ []) enclosing d = open_needs date enclosing d
  span_needs (date ∷ x ∷ []) enclosing d = open_needs date enclosing d ++ on_date_uses (open_needs x enclosing) (value s l date enclosing d)
  span_needs (start ∷ end ∷ x ∷ []) enclosing d =
      open_needs start enclosing d ++ (open_needs end enclosing d ++ in_window_uses (open_needs x enclosing) (value s l start enclosing d) (value s l end enclosing d))
  span_needs _ enclosing d = []

  -- of the rows in order, and of the last value
  abbrev pub rows_needs : List Row → Expr → Uses
  rows_needs [] last enclosing d = needs s l list_need at_point last enclosing d
  rows_needs (row ∷ rows) last enclosing d =
      cond_needs (value s l row.cond enclosing d) (needs s l list_need at_point row.cond enclosing d) (needs s l list_need at_point row.value enclosing d) (rows_needs rows last enclosing d)

-- the values of the determination, beside the case's lists and containers
abbrev pub fresh_look : Base → Facts → Look
fresh_look b c = look_of c (mean b c)

-- the needs of a point, whether or not it is unknown
abbrev pub point_needs : Base → Facts → AttrId → InstanceId → ℕ → List Use
point_needs b c a i d = needs_by b c (suc (b.rank a)) a i d

-- the needs of a tree, whether or not it is unknown
abbrev pub tree_needs : Base → Facts → Expr → Uses
tree_needs b c = needs b.shape (fresh_look b c) (asked b.shape c.members) (point_needs b c)
