-- What a rule gives over a look, and over which looks it may be carried out.
use Rattle.std.specs.Prelude.{◌≡◌, ℕ, ◌<◌, ◌≤◌, true, List, [], ◌∷◌, length, Option, Some, IsSome}
use Rattle.std.specs.List.{AllByRecursion}
use Rattle.opa_date.specs.declared.TheConstants.{DAYS}
use Rattle.opa_value.specs.declared.value.Value.{Value}
use Rattle.opa_value.specs.declared.value.Value.TheVariants.{Unknown}
use Rattle.opa_model.specs.declared.ids.AttrId.{AttrId}
use Rattle.opa_model.specs.declared.ids.RelId.{RelId}
use Rattle.opa_cells.specs.declared.instance.InstanceId.{InstanceId}
use Rattle.opa_cells.specs.Instances.{named}
use Rattle.opa_case.specs.Shapes.{Shape}
use Rattle.opa_case.specs.Steps.{has_kind}
use Rattle.opa_tree.specs.Rules.{rule_of}
use Rattle.opa_mean.specs.Looks.{Look}
use Rattle.opa_mean.specs.Mean.{Base, concluded, fitted}
use Rattle.opa_mean.specs.Meaning.{value}
use Rattle.opa_mean.specs.Places.{owner_of}

-- the fitted value of the attribute's rule at each day, unknown where it has none
abbrev pub derived : Base → Look → AttrId → InstanceId → ℕ → Value
derived b l a i d = concluded (rule_of b.rules a) Unknown (λ e. fitted b.shape a (value b.shape l e (i ∷ []) d))

-- the containers of an instance go up entity by entity to the global one
pub data Rises (s : Shape) (container : InstanceId → Option InstanceId) : InstanceId → Type 0 where
  at_global : (i : InstanceId) → i.entity.0 ≡ 0 → Rises s container i
  inside : (i j : InstanceId) → 0 < i.entity.0 → container i ≡ Some j → j.entity.0 ≡ s.parent i.entity.0 → Rises s container j → Rises s container i

-- The attribute has a rule and is of the instance's entity. Lines have values of their attributes' kinds, and a relation to
-- one lists at most one name. For the instance and each listed one containers go up to the global instance.
pub record MayDerive (b : Base) (l : Look) (a : AttrId) (i : InstanceId) : Type 0 where
  pub ruled : IsSome (rule_of b.rules a)
  pub owner : i.entity.0 ≡ owner_of b.shape a
  pub kinds : (m : AttrId) (j : InstanceId) (d : ℕ) → d < DAYS → has_kind (b.shape.attribute m).kind (l.value m j d) ≡ true
  pub to_one : (r : RelId) (j : InstanceId) (names : List (List ℕ)) → b.shape.one r ≡ true → l.members r j ≡ Some names → length names ≤ 1
  pub rises : Rises b.shape l.container i
  pub listed_rise : (r : RelId) (j : InstanceId) (names : List (List ℕ)) → l.members r j ≡ Some names → AllByRecursion (λ n. Rises b.shape l.container (named (b.shape.target r) n)) names
