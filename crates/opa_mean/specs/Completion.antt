-- What holds of the facts of a case, and what it is to know more.
use Rattle.std.specs.Prelude.{◌≡◌, ◌↔◌, ℕ, ◌<◌, true, List, None, Some}
use Rattle.std.specs.List.{AllByRecursion}
use Rattle.opa_value.specs.Below.{IsBelow}
use Rattle.opa_model.specs.declared.ids.AttrId.{AttrId}
use Rattle.opa_model.specs.declared.ids.RelId.{RelId}
use Rattle.opa_cells.specs.declared.instance.InstanceId.{InstanceId}
use Rattle.opa_cells.specs.Instances.{global, named}
use Rattle.opa_case.specs.Shapes.{Shape}
use Rattle.opa_mean.specs.Mean.{Base, Facts, IsLive, mean}
use Rattle.opa_mean.specs.Frees.{IsFree}
use Rattle.opa_case.specs.Live.{walk}

-- the container of an instance is live, and of the parent entity
pub record IsContained (s : Shape) (c : Facts) (i : InstanceId) : Type 0 where
  pub container : InstanceId
  pub is : c.container i ≡ Some container
  pub is_live : IsLive c container
  pub of_parent : container.entity.0 ≡ s.parent i.entity.0

-- The global instance is live, and the only one of its entity; each other one is contained. Listed instances are live. A list
-- of all instances is unknown exactly where these aren't all known.
pub record AreFacts (s : Shape) (c : Facts) : Type 0 where
  pub has_global : IsLive c global
  pub only_global : (i : InstanceId) → IsLive c i → i.entity.0 ≡ 0 → i ≡ global
  pub uncontained : c.container global ≡ None
  pub contained : (i : InstanceId) → IsLive c i → 0 < i.entity.0 → IsContained s c i
  pub listed : (r : RelId) (i : InstanceId) (names : List (List ℕ)) → c.members r i ≡ Some names → AllByRecursion (λ n. IsLive c (named (s.target r) n)) names
  pub every : (r : RelId) → s.every r ≡ true → (c.members r global ≡ None) ↔ (walk s c.members s.count (s.target r) ≡ None)

-- The new facts have what the old ones have: the known lists, the live instances in their containers, and of each answer
-- what it tells. What the old ones leave unknown may be anything.
pub record Completes (old new : Facts) : Type 0 where
  pub lists : (r : RelId) (i : InstanceId) (names : List (List ℕ)) → old.members r i ≡ Some names → new.members r i ≡ Some names
  pub live : (i : InstanceId) → IsLive old i → IsLive new i
  pub containers : (i : InstanceId) → IsLive old i → new.container i ≡ old.container i
  pub answers : (a : AttrId) (i : InstanceId) (d : ℕ) → IsBelow (old.answer a i d) (new.answer a i d)

-- a value that is known stays in every completion, for an attribute that never rests on whether something is known
abbrev pub KnownStays : Base → Facts → Facts → Type 0
KnownStays b c c' = (a : AttrId) (i : InstanceId) (d : ℕ) → IsFree b a → IsLive c i → IsBelow (mean b c a i d) (mean b c' a i d)
