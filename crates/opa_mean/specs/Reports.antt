-- What the value of a point rests on through all rules, and what facts alone fix it.
use Rattle.std.specs.Prelude.{◌≡◌, ℕ, List, [], ◌∷◌, map, Option, None, Some, Contains}
use Rattle.opa_value.specs.declared.value.Value.{Value}
use Rattle.opa_model.specs.declared.ids.AttrId.{AttrId}
use Rattle.opa_model.specs.declared.ids.RelId.{RelId}
use Rattle.opa_cells.specs.declared.instance.InstanceId.{InstanceId}
use Rattle.opa_cells.specs.Instances.{named}
use Rattle.opa_tree.specs.declared.expr.Expr.{Expr}
use Rattle.opa_tree.specs.declared.rules.Rule.{Rule}
use Rattle.opa_tree.specs.Rules.{rule_of}
use Rattle.opa_mean.specs.Completion.{AreFacts}
use Rattle.opa_mean.specs.Mean.{Base, Facts, IsLive, look_of, mean}
use Rattle.opa_mean.specs.Places.{chain}
use Rattle.opa_mean.specs.Uses.{Use, Point, Listed, uses}

abbrev pub rule_uses : Option Rule → (Expr → List Use) → List Use
rule_uses None u = []
rule_uses (Some rule) u = u rule.expr

-- the uses of a point are those of its rule, and none where it has no rule
abbrev pub uses_of : Base → Facts → Use → List Use
uses_of b c (Point a i d) = rule_uses (rule_of b.rules a) (λ e. uses b.shape (look_of c (mean b c)) e (i ∷ []) d)
uses_of b c (Listed r i) = []

-- the least set that has the point and the uses of its points
pub data InCone (b : Base) (c : Facts) (p : Use) : Use → Type 0 where
  itself : InCone b c p p
  used_by : (u v : Use) → InCone b c p u → Contains (uses_of b c u) v → InCone b c p v

abbrev pub members_of : ℕ → Option (List (List ℕ)) → List InstanceId
members_of target None = []
members_of target (Some names) = map (named target) names

-- a point has its instance as its own, and a list its instance and each instance that it lists
abbrev pub own_of : Base → Facts → Use → List InstanceId
own_of b c (Point a i d) = i ∷ []
own_of b c (Listed r i) = i ∷ members_of (b.shape.target r) (c.members r i)

-- what is listed: a point's value, a list that is unknown or has these names, or an instance's container
pub data Entry : Type 0 where
  PointIs : AttrId → InstanceId → ℕ → Value → Entry
  ListIs : RelId → InstanceId → Option (List (List ℕ)) → Entry
  MemberIs : InstanceId → InstanceId → Entry

-- The report of a point: its cone with values and lists, and the container of each instance that one of these has as its
-- own, and of the instances that contain it.
pub data InReport (b : Base) (c : Facts) (p : Use) : Entry → Type 0 where
  point : (a : AttrId) (i : InstanceId) (d : ℕ) → InCone b c p (Point a i d) → InReport b c p (PointIs a i d (mean b c a i d))
  list : (r : RelId) (i : InstanceId) → InCone b c p (Listed r i) → InReport b c p (ListIs r i (c.members r i))
  member : (u : Use) (i j k : InstanceId) → InCone b c p u → Contains (own_of b c u) i → Contains (chain c.container i) j → c.container j ≡ Some k → InReport b c p (MemberIs j k)

-- A case has what is listed. Of the points those count whose attribute has no rule: the others are conclusions.
pub record Agrees (b : Base) (lists : Entry → Type 0) (c : Facts) : Type 0 where
  pub points : (a : AttrId) (i : InstanceId) (d : ℕ) (v : Value) → lists (PointIs a i d v) → rule_of b.rules a ≡ None → c.answer a i d ≡ v
  pub lists_are : (r : RelId) (i : InstanceId) (names : Option (List (List ℕ))) → lists (ListIs r i names) → c.members r i ≡ names
  pub members : (j k : InstanceId) → lists (MemberIs j k) → c.container j ≡ Some k

-- What is listed fixes a point's value: facts that have it, and in which the instance is live, give the point that value.
abbrev pub Fixes : Base → (Entry → Type 0) → AttrId → InstanceId → ℕ → Value → Type 0
Fixes b lists a i d v = (c : Facts) → AreFacts b.shape c → IsLive c i → Agrees b lists c → mean b c a i d ≡ v

-- the report of a point fixes its value
abbrev pub ReportsFix : Base → Facts → Type 0
ReportsFix b c = (a : AttrId) (i : InstanceId) (d : ℕ) → IsLive c i → Fixes b (InReport b c (Point a i d)) a i d (mean b c a i d)
