-- What could decide a tree whose value is unknown: points without a rule, and lists, in written order.
use Rattle.std.specs.Prelude.{◌≡◌, ◌≢◌, ◌↔◌, ℕ, zero, suc, true, false, cond, if◌then◌else◌, List, [], ◌∷◌, ◌++◌, Option, None, Some, flat_map, is_none}
use Rattle.std.specs.List.{AllByRecursion}
use Rattle.opa_value.specs.declared.value.Value.{Value}
use Rattle.opa_value.specs.declared.value.Value.TheVariants.{Unknown, Bool as Truth}
use Rattle.opa_value.specs.Truth.{is_true, is_unknown}
use Rattle.opa_model.specs.declared.ids.AttrId.{AttrId}
use Rattle.opa_model.specs.declared.ids.RelId.{RelId}
use Rattle.opa_cells.specs.declared.instance.InstanceId.{InstanceId}
use Rattle.opa_cells.specs.Instances.{global, named}
use Rattle.opa_tree.specs.declared.kinds.Quant.{Quant}
use Rattle.opa_tree.specs.declared.kinds.Quant.TheVariants as quant
use Rattle.opa_tree.specs.declared.expr.Expr.{Expr}
use Rattle.opa_tree.specs.declared.expr.Expr.TheOpen.{Expr-F, Row-F, Const, Attr, All, Any, Not, Op, Certain, Known, Over, Window, Rolling, Table}
use Rattle.opa_tree.specs.declared.expr.Expr.TheFolds.{para-Expr}
use Rattle.opa_tree.specs.declared.rules.Rule.{Rule}
use Rattle.opa_tree.specs.Rules.{rule_of}
use Rattle.opa_case.specs.Shapes.{Shape}
use Rattle.opa_mean.specs.Frees.{IsFree}
use Rattle.opa_mean.specs.Looks.{Look}
use Rattle.opa_mean.specs.Mean.{Base, Facts, IsLive, look_of, mean_by, mean}
use Rattle.opa_mean.specs.Meaning.{value}
use Rattle.opa_mean.specs.Places.{owner_of, place}
use Rattle.opa_mean.specs.Uses.{Use, Point, Listed, Uses, Used, RowUses, RowUsed, at_place_uses, on_date_uses, in_window_uses, last_days_uses}
use Rattle.opa_case.specs.Live.{Lists, walk}

-- the first whose list is unknown; there is one, and the global instance stands where there were none
abbrev pub first_unlisted : (InstanceId → Option (List (List ℕ))) → List InstanceId → InstanceId
first_unlisted members [] = global
first_unlisted members (i ∷ instances) = cond (is_none (members i)) i (first_unlisted members instances)

abbrev pub gap_of : RelId → (InstanceId → Option (List (List ℕ))) → Option (List InstanceId) → Use → Use
gap_of r members None above = above
gap_of r members (Some parents) above = Listed r (first_unlisted members parents)

-- by at most so many parents
unfoldable pub gap_by : Shape → Lists → ℕ → ℕ → Use
gap_by s members zero e = Listed (s.contained e) global
gap_by s members (suc n) e = gap_of (s.contained e) (members (s.contained e)) (walk s members n (s.parent e)) (gap_by s members n (s.parent e))

-- What keeps the instances of an entity from being known: that of its parent where the parent's aren't known, else the
-- containment list of the first of these whose list is unknown. No chain of parents is longer than there are entities.
abbrev pub gap : Shape → Lists → ℕ → Use
gap s members e = gap_by s members s.count e

-- what is asked for in place of an unknown list: a list of all instances is never asked
abbrev pub asked : Shape → Lists → RelId → InstanceId → Use
asked s members r i = if s.every r then gap s members (s.target r) else Listed r i

-- the needs of what is unknown
abbrev pub if_unknown : Value → List Use → List Use
if_unknown v us = if is_unknown v then us else []

-- of a true condition the value's needs, of a false one those of the rest, of an unknown one its own
abbrev pub cond_needs : Value → List Use → List Use → List Use → List Use
cond_needs (Truth true) own us rest = us
cond_needs (Truth false) own us rest = rest
cond_needs Unknown own us rest = own
cond_needs _ own us rest = []

-- an unknown list, else those of the members in list order
abbrev pub over_needs : Use → (List ℕ → List Use) → Option (List (List ℕ)) → List Use
over_needs key u None = key ∷ []
over_needs key u (Some names) = flat_map u names

module _ (s : Shape) (l : Look) (list_need : RelId → InstanceId → Use) (point_needs : AttrId → InstanceId → ℕ → List Use) where
  -- a part's needs, where it is unknown
  abbrev pub part_needs : Used → Uses
  part_needs x enclosing d = if_unknown (value s l x.0 enclosing d) (x.1 enclosing d)

  -- of a member: of its operand; of a test where it is unknown, and of the number where the test is true
  abbrev pub item_needs : Quant → List Used → Uses
  item_needs quant.SumIf (number ∷ test ∷ []) enclosing d = part_needs test enclosing d ++ (if is_true (value s l test.0 enclosing d) then part_needs number enclosing d else [])
  item_needs q (x ∷ []) enclosing d = part_needs x enclosing d
  item_needs q _ enclosing d = []

  abbrev pub window_needs : List Used → Uses
  window_needs (date ∷ []) enclosing d = part_needs date enclosing d
  window_needs (date ∷ x ∷ []) enclosing d = part_needs date enclosing d ++ on_date_uses (part_needs x enclosing) (value s l date.0 enclosing d)
  window_needs (start ∷ end ∷ x ∷ []) enclosing d =
      part_needs start enclosing d ++ (part_needs end enclosing d ++ in_window_uses (part_needs x enclosing) (value s l start.0 enclosing d) (value s l end.0 enclosing d))
  window_needs _ enclosing d = []

  abbrev pub table_needs : List RowUsed → Uses → Uses
  table_needs [] last enclosing d = last enclosing d
  table_needs (row ∷ rows) last enclosing d =
      cond_needs (value s l row.0.cond enclosing d) (row.1.cond enclosing d) (row.1.value enclosing d) (table_needs rows last enclosing d)

  abbrev pub needs_step : Expr-F Used RowUsed → Uses
  needs_step (Const v) enclosing d = []
  needs_step (Attr a) enclosing d = at_place_uses (place l.container enclosing (owner_of s a)) (λ i. point_needs a i d)
  needs_step (All xs) enclosing d = flat_map (λ x. part_needs x enclosing d) xs
  needs_step (Any xs) enclosing d = flat_map (λ x. part_needs x enclosing d) xs
  needs_step (Not x) enclosing d = x.1 enclosing d
  needs_step (Op k xs) enclosing d = flat_map (λ x. part_needs x enclosing d) xs
  needs_step (Certain x) enclosing d = x.1 enclosing d
  needs_step (Known x) enclosing d = []
  needs_step (Over q r xs) enclosing d = at_place_uses (place l.container enclosing (s.source r)) (λ i.
      over_needs (list_need r i) (λ n. item_needs q xs (named (s.target r) n ∷ enclosing) d) (l.members r i))
  needs_step (Window k xs) enclosing d = window_needs xs enclosing d
  needs_step (Rolling b n x) enclosing d = last_days_uses n (part_needs x enclosing) d
  needs_step (Table rows x) enclosing d = table_needs rows x.1 enclosing d

  abbrev pub needs_row : Row-F Used RowUsed → RowUses
  needs_row row = record { cond = row.cond.1; value = row.value.1 }

  -- the needs of a tree that is unknown
  unfoldable pub needs : Expr → Uses
  needs = para-Expr Uses RowUses needs_step needs_row

abbrev pub needs_or : Option Rule → List Use → (Expr → List Use) → List Use
needs_or None own f = own
needs_or (Some rule) own f = f rule.expr

-- the point itself where it has no rule, else the needs of its rule there
unfoldable pub needs_by : Base → Facts → ℕ → AttrId → InstanceId → ℕ → List Use
needs_by b c zero a i d = []
needs_by b c (suc n) a i d =
    needs_or (rule_of b.rules a) (Point a i d ∷ []) (λ e. needs b.shape (look_of c (mean_by b c n)) (asked b.shape c.members) (needs_by b c n) e (i ∷ []) d)

-- the needs of a point, and none where it isn't unknown
abbrev pub needs_of : Base → Facts → AttrId → InstanceId → ℕ → List Use
needs_of b c a i d = if_unknown (mean b c a i d) (needs_by b c (suc (b.rank a)) a i d)

-- the point is unknown, or the list
abbrev pub IsOpen : Facts → Use → Type 0
IsOpen c (Point a i d) = c.answer a i d ≡ Unknown
IsOpen c (Listed r i) = c.members r i ≡ None

-- a point that is unknown has a need, and one that isn't has none
abbrev pub UnknownHasNeed : Base → Facts → Type 0
UnknownHasNeed b c = (a : AttrId) (i : InstanceId) (d : ℕ) → (mean b c a i d ≡ Unknown) ↔ (needs_of b c a i d ≢ [])

-- Nothing outside its needs can decide an unknown point: where they are all still open, it is still unknown.
abbrev pub OnlyNeedsDecide : Base → Facts → Facts → Type 0
OnlyNeedsDecide b c c' = (a : AttrId) (i : InstanceId) (d : ℕ) → IsFree b a → IsLive c i → mean b c a i d ≡ Unknown → AllByRecursion (IsOpen c') (needs_of b c a i d) → mean b c' a i d ≡ Unknown
