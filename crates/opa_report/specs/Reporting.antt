-- What a report is made from, besides what is seen of a case.
use Rattle.std.specs.Prelude.{◌≡◌, ◌<◌, ℕ, List, [], map, flat_map, slice_index_or, Contains}
use Rattle.opa_model.specs.declared.ids.AttrId.{AttrId}
use Rattle.opa_model.specs.declared.ids.RelId.{RelId}
use Rattle.opa_cells.specs.declared.instance.InstanceId.{InstanceId}
use Rattle.opa_mean.specs.Bases.{RanksFall}
use Rattle.opa_mean.specs.Completion.{AreFacts}
use Rattle.opa_mean.specs.Mean.{Base, Facts}
use Rattle.opa_mean.specs.Places.{owner_of}
use Rattle.opa_mean.specs.Reports.{InCone}
use Rattle.opa_mean.specs.Uses.{Use, Point, Listed}
use Rattle.opa_report.specs.declared.lines.ReportLine.{ReportLine}
use Rattle.opa_report.specs.ReportLines.{by_rank, relations, slots, keys, IsOwned, IsReport}
use Rattle.opa_report.specs.Supporting.{LiesIn}
use Rattle.opa_report.specs.Walking.{AreSlots}

-- an attribute with each instance that is listed for its entity, and a relation with each that is listed for its source
abbrev pub with_listed : Base → List (List InstanceId) → AttrId → List (AttrId × InstanceId)
with_listed b live a = map (λ i. (a, i)) (slice_index_or live (owner_of b.shape a) [])

abbrev pub from_listed : Base → List (List InstanceId) → RelId → List (RelId × InstanceId)
from_listed b live q = map (λ i. (q, i)) (slice_index_or live (b.shape.source q) [])

-- the slots, and the keys of lists, over a list of instances for each entity
abbrev pub slots_over : Base → List (List InstanceId) → List (AttrId × InstanceId)
slots_over b live = flat_map (with_listed b live) (by_rank b)

abbrev pub keys_over : Base → List (List InstanceId) → List (RelId × InstanceId)
keys_over b live = flat_map (from_listed b live) (relations b.shape.relations)

-- the slots, the keys of lists and the instances of a case, in their order
pub record AreOf (b : Base) (c : Facts) (ss : List (AttrId × InstanceId)) (ks : List (RelId × InstanceId)) (is : List InstanceId) : Type 0 where
  pub falls : RanksFall b
  pub facts : AreFacts b.shape c
  pub slots_are : ss ≡ slots b c
  pub keys_are : ks ≡ keys b c
  pub instances_are : is ≡ c.instances
  pub are_slots : AreSlots b c (slots b c)

-- the cone lies in the slots and the keys of the case
pub record IsPlaced (b : Base) (c : Facts) (p : Use) : Type 0 where
  pub points : (a : AttrId) (i : InstanceId) (d : ℕ) → InCone b c p (Point a i d) → Contains (slots b c) (a, i)
  pub lists : (r : RelId) (i : InstanceId) → InCone b c p (Listed r i) → Contains (keys b c) (r, i)
  pub instances : (j : InstanceId) → IsOwned b c p j → Contains c.instances j

-- the lines are those of the point's cone, which lies in the case
pub record IsWhole (b : Base) (c : Facts) (p : Use) (lines : List ReportLine) : Type 0 where
  pub report : IsReport b c p lines
  pub lies : LiesIn b c p
