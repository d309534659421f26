-- A case that fits what is declared and which attributes have a rule. Bounds and limits aren't asked for.
use Rattle.std.specs.Prelude.{◌≡◌, ◌≤◌, ◌<◌, ℕ, Bool, true, false, List, Some, length}
use Rattle.std.specs.List.{list_all, list_any}
use Rattle.std.specs.FinMap.{FinMap, get}
use Rattle.opa_value.specs.declared.value.Value.{Value}
use Rattle.opa_value.specs.declared.value.Value.TheVariants as value
use Rattle.opa_model.specs.declared.ids.AttrId.{AttrId}
use Rattle.opa_model.specs.declared.ids.RelId.{RelId}
use Rattle.opa_model.specs.declared.things.Kind.TheVariants as kinds
use Rattle.opa_cells.specs.Instances.{named, is_text}
use Rattle.opa_cells.specs.Keys.{cell_cmp}
use Rattle.opa_cells.specs.declared.instance.InstanceId.{InstanceId}
use Rattle.opa_case.specs.Shapes.{Shape}
use Rattle.opa_case.specs.Live.{Names, live_of, is_live}
use Rattle.opa_case.specs.Cases.{CaseView, Answer, stored, IsLive, are_names}
use Rattle.opa_case.specs.Steps.{every_of, has_rule, has_kind, has_decimals, is_unknown_answer}

-- this list of a relation at an instance is known
abbrev pub Known : FinMap cell_cmp Names → RelId → InstanceId → Names → Type 0
Known m r i names = get m (r.0, i) ≡ Some names

-- this is answered of an attribute at an instance
abbrev pub Answered : FinMap cell_cmp Answer → AttrId → InstanceId → Answer → Type 0
Answered m a i line = get m (a.0, i) ≡ Some line

-- Known lists that fit what is declared, one by one, and no two containers have one instance.
pub record AreSound (s : Shape) (m : FinMap cell_cmp Names) : Type 0 where
  pub declared : (r : RelId) (i : InstanceId) (names : Names) → Known m r i names → r.0 < s.relations
  pub source : (r : RelId) (i : InstanceId) (names : Names) → Known m r i names → i.entity.0 ≡ s.source r
  pub not_every : (r : RelId) (i : InstanceId) (names : Names) → Known m r i names → s.every r ≡ false
  pub names : (r : RelId) (i : InstanceId) (names : Names) → Known m r i names → are_names names ≡ true
  pub one : (r : RelId) (i : InstanceId) (names : Names) → Known m r i names → s.one r ≡ true → length names ≤ 1
  pub once : (r : RelId) (i j : InstanceId) (ns ms : Names) (n : List ℕ) → s.contains r ≡ true → Known m r i ns → Known m r j ms → list_any (is_text n) ns ≡ true → list_any (is_text n) ms ≡ true → i ≡ j

-- no number of the answer has more than two decimals
abbrev pub has_two_decimals : Value → Bool
has_two_decimals value.Unknown = true
has_two_decimals value.Uncertain = true
has_two_decimals (value.Bool b) = true
has_two_decimals (value.Num n) = has_decimals 2 n
has_two_decimals (value.Words t) = true
has_two_decimals (value.Day d) = true

-- what is answered of an attribute at an instance fits what is declared, and which attributes have a rule
pub record IsAnswer (s : Shape) (ruled : List Bool) (a : AttrId) (i : InstanceId) (line : Answer) : Type 0 where
  pub declared : a.0 < s.attributes
  pub no_rule : has_rule ruled a ≡ false
  pub owner : i.entity.0 ≡ (s.attribute a).entity.0
  pub known : is_unknown_answer line ≡ false
  pub kind : list_all (λ p. has_kind (s.attribute a).kind p.1) line ≡ true
  pub currency : (s.attribute a).kind ≡ kinds.Currency → list_all (λ p. has_two_decimals p.1) line ≡ true

pub record Fits (s : Shape) (ruled : List Bool) (c : CaseView) : Type 0 where
  pub sound : AreSound s c.lists
  -- the live instances are those that the known lists contain, in instance order
  pub live : c.live ≡ live_of s (stored c.lists)
  -- the lists of `every` relations are those of Walk
  pub every : c.every ≡ every_of s (stored c.lists)
  -- each key's instance is live
  pub listed : (r : RelId) (i : InstanceId) (names : Names) → Known c.lists r i names → IsLive c i
  pub answered : (a : AttrId) (i : InstanceId) (line : Answer) → Answered c.answers a i line → IsLive c i
  -- each name in a reference list is live
  pub referred : (r : RelId) (i : InstanceId) (names : Names) → Known c.lists r i names → s.contains r ≡ false → list_all (λ n. is_live c.live (named (s.target r) n)) names ≡ true
  pub answers : (a : AttrId) (i : InstanceId) (line : Answer) → Answered c.answers a i line → IsAnswer s ruled a i line
