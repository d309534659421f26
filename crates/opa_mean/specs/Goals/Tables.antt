-- Tables of what is free, filled rank by rank.
use Rattle.std.specs.Prelude.{◌≡◌, ◌⊎◌, ℕ, ◌<◌, Bool, true, ◌&&◌, List, slice_index_or, Option, None, Some, Contains}
use Rattle.std.specs.List.{list_all}
use Rattle.opa_model.specs.declared.ids.AttrId.{AttrId}
use Rattle.opa_tree.specs.declared.expr.Row.{Row}
use Rattle.opa_tree.specs.declared.rules.Rule.{Rule}
use Rattle.opa_tree.specs.Mentions.{mentioned}
use Rattle.opa_mean.specs.Frees.{is_free}
use Rattle.opa_mean.specs.Mean.{Base}
use Rattle.opa_mean.specs.Goals.Freedom.{never_asks}

-- no part of the row asks whether a value is known
abbrev pub row_asks_nothing : Row → Bool
row_asks_nothing row = is_free row.cond && is_free row.value

-- what a table tells of an attribute; past its end nothing is asked
abbrev pub told_free : List Bool → AttrId → Bool
told_free free a = slice_index_or free a.0 true

-- the table tells of each attribute whether it never asks
pub record AreFrees (b : Base) (free : List Bool) : Type 0 where
  pub right : (a : AttrId) → told_free free a ≡ never_asks b a

-- the rule's tree asks nothing, and what it mentions is free by the table
abbrev pub free_by : List Bool → Option Rule → Bool
free_by free None = true
free_by free (Some rule) = is_free rule.expr && list_all (told_free free) (mentioned rule.expr)

-- of the attributes of a rank below n, and of those of a list
abbrev pub IsDone : Base → ℕ → List AttrId → AttrId → Type 0
IsDone b n done a = (b.rank a < n) ⊎ Contains done a

-- the table tells it of those
pub record AreFreesUpTo (b : Base) (n : ℕ) (done : List AttrId) (free : List Bool) : Type 0 where
  pub right : (a : AttrId) → IsDone b n done a → told_free free a ≡ never_asks b a
