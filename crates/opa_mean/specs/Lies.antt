-- Where lies what values rest on.
use Rattle.std.specs.Prelude.{◌≡◌, ◌<◌, ℕ, true, Contains}
use Rattle.opa_model.specs.declared.ids.AttrId.{AttrId}
use Rattle.opa_cells.specs.declared.instance.InstanceId.{InstanceId}
use Rattle.opa_case.specs.Cases.{CaseView, IsLive}
use Rattle.opa_tree.specs.declared.rulebase.Rulebase.{Rulebase}
use Rattle.opa_tree.specs.Ranks.{rank_at}
use Rattle.opa_mean.specs.Given.{base_of, facts_of}
use Rattle.opa_mean.specs.Reports.{uses_of, InCone}
use Rattle.opa_mean.specs.Rulebases.{IsOf}
use Rattle.opa_mean.specs.Slots.{has_place, has_list_place}
use Rattle.opa_mean.specs.Uses.{Use, Point, Listed}

-- a point at a live instance of its attribute's entity, or a list at one of its relation's source
abbrev pub IsPlaced : Rulebase → CaseView → Use → Type 0
IsPlaced r c (Point a i d) = has_place r c a i ≡ true
IsPlaced r c (Listed q i) = has_list_place r c q i ≡ true

-- a point of an attribute of lower rank, or a list
abbrev pub IsLower : Rulebase → AttrId → Use → Type 0
IsLower r a (Point m i d) = rank_at r.ranks m < rank_at r.ranks a
IsLower r a (Listed q i) = Unit {0}

-- What a point at a live instance uses has its place there, and is of lower rank.
abbrev pub UsesLie : Type 0
UsesLie = (r : Rulebase) (c : CaseView) → IsOf r c → (a : AttrId) (i : InstanceId) (d : ℕ) (u : Use) → IsLive c i → Contains (uses_of (base_of r) (facts_of c) (Point a i d)) u → IsPlaced r c u × IsLower r a u

-- All that a point rests on through all rules has its place, where the point has one.
abbrev pub ConeLies : Type 0
ConeLies = (r : Rulebase) (c : CaseView) → IsOf r c → (a : AttrId) (i : InstanceId) (d : ℕ) (u : Use) → has_place r c a i ≡ true → InCone (base_of r) (facts_of c) (Point a i d) u → IsPlaced r c u
