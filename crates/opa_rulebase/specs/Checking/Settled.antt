-- What holds where no more ranks can be found.
use Rattle.std.specs.Prelude.{ℕ, ◌≡◌, List, ◌∷◌, Option, None, Some, slice_get}
use Rattle.opa_model.specs.declared.ids.AttrId.{AttrId}
use Rattle.opa_tree.specs.declared.rules.Rule.{Rule}
use Rattle.opa_tree.specs.Laws.{AreDeclared}
use Rattle.opa_rulebase.specs.Checking.Found.{AreUses, AreFound, AreAll}

pub record AreSettled (rules : List Rule) (uses : List (Option (List AttrId))) (ranks : List (Option ℕ)) : Type 0 where
  pub count : ℕ
  pub taken : ℕ
  pub declared : AreDeclared count rules
  pub used : AreUses count rules uses
  pub found : AreFound uses ranks taken
  pub all : AreAll uses ranks

-- the attribute has no rank
abbrev pub IsOpen : List (Option ℕ) → AttrId → Type 0
IsOpen ranks a = slice_get ranks a.0 ≡ Some None

-- a circle begins with an attribute that has no rank
pub record BeginsOpen (ranks : List (Option ℕ)) (circle : List AttrId) : Type 0 where
  pub first : AttrId
  pub more : List AttrId
  pub begins : circle ≡ first ∷ more
  pub is_open : IsOpen ranks first
