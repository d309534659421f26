-- The lines of a report, in their order.
use Rattle.std.specs.Prelude.{◌≡◌, ◌↔◌, ℕ, zero, suc, Bool, true, cond, ◌==◌, List, [], ◌∷◌, ◌++◌, map, filter, flat_map, Option, None, Some, Contains}
use Rattle.opa_model.specs.declared.ids.AttrId.{AttrId}
use Rattle.opa_model.specs.declared.ids.RelId.{RelId}
use Rattle.opa_cells.specs.declared.instance.InstanceId.{InstanceId}
use Rattle.opa_tree.specs.Trees.{highest}
use Rattle.opa_mean.specs.Changes.{attributes}
use Rattle.opa_mean.specs.Mean.{Base, Facts, mean}
use Rattle.opa_mean.specs.Places.{chain, is_of, owner_of}
use Rattle.opa_mean.specs.Reports.{InCone, own_of}
use Rattle.opa_mean.specs.Uses.{Use, Point, Listed}
use Rattle.opa_report.specs.declared.lines.ReportLine.{ReportLine}
use Rattle.opa_report.specs.declared.lines.ReportLine.TheVariants as line
use Rattle.opa_report.specs.Runs.{Run, runs}

-- the numbers below n, from the greatest down
abbrev pub falling : ℕ → List ℕ
falling zero = []
falling (suc n) = n ∷ falling n

-- so many relations, in declared order
abbrev pub relations : ℕ → List RelId
relations zero = []
relations (suc n) = relations n ++ record { 0 = n } ∷ []

-- the ranks that there are, from the greatest down
abbrev pub ranks : Base → List ℕ
ranks b = falling (suc (highest (map b.rank (attributes b.shape.attributes))))

-- the attributes of a rank, in declared order
abbrev pub with_rank : Base → ℕ → List AttrId
with_rank b n = filter (λ a. b.rank a == n) (attributes b.shape.attributes)

-- the live instances of an entity, in instance order
abbrev pub of_entity : Facts → ℕ → List InstanceId
of_entity c e = filter (is_of e) c.instances

-- an attribute with each live instance of its entity
abbrev pub with_instances : Base → Facts → AttrId → List (AttrId × InstanceId)
with_instances b c a = map (λ i. (a, i)) (of_entity c (owner_of b.shape a))

-- the attributes by falling rank, then declared order
abbrev pub by_rank : Base → List AttrId
by_rank b = flat_map (with_rank b) (ranks b)

-- the slots of a case, by falling rank, then declared order, then instance order
abbrev pub slots : Base → Facts → List (AttrId × InstanceId)
slots b c = flat_map (with_instances b c) (by_rank b)

-- the keys of lists, by declared relation and instance order
abbrev pub keys : Base → Facts → List (RelId × InstanceId)
keys b c = flat_map (λ r. map (λ i. (r, i)) (of_entity c (b.shape.source r))) (relations b.shape.relations)

abbrev pub point_line : AttrId → InstanceId → Run → ReportLine
point_line a i r = line.Point a i r.first r.last r.value

module _ (b : Base) (c : Facts) where
  abbrev pub slot_lines : (Use → Bool) → AttrId → InstanceId → List ReportLine
  slot_lines used a i = map (point_line a i) (runs (λ d. used (Point a i d)) (mean b c a i))

  -- of the slots, each with rising days
  abbrev pub point_lines : (Use → Bool) → List ReportLine
  point_lines used = flat_map (λ x. slot_lines used x.0 x.1) (slots b c)

  abbrev pub key_lines : (Use → Bool) → RelId → InstanceId → List ReportLine
  key_lines used r i = cond (used (Listed r i)) (line.Members r i (c.members r i) ∷ []) []

  -- of the keys of lists
  abbrev pub list_lines : (Use → Bool) → List ReportLine
  list_lines used = flat_map (λ x. key_lines used x.0 x.1) (keys b c)

  abbrev pub contained_lines : InstanceId → Option InstanceId → List ReportLine
  contained_lines i None = []
  contained_lines i (Some k) = line.Member (b.shape.contained i.entity.0) k i ∷ []

  -- in instance order; the global instance has no container
  abbrev pub member_lines : (InstanceId → Bool) → List ReportLine
  member_lines owned = flat_map (λ i. cond (owned i) (contained_lines i (c.container i)) []) c.instances

  -- the lines of a set of points and lists, and of instances
  abbrev pub lines_of : (Use → Bool) → (InstanceId → Bool) → List ReportLine
  lines_of used owned = point_lines used ++ (list_lines used ++ member_lines owned)

-- an instance is one that a point or a list of the cone has as its own, or contains such a one
pub record IsOwned (b : Base) (c : Facts) (p : Use) (j : InstanceId) : Type 0 where
  pub use_ : Use
  pub own : InstanceId
  pub in_cone : InCone b c p use_
  pub is_own : Contains (own_of b c use_) own
  pub above : Contains (chain c.container own) j

-- The lines are those of the point's cone.
pub record IsReport (b : Base) (c : Facts) (p : Use) (lines : List ReportLine) : Type 0 where
  pub used : Use → Bool
  pub owned : InstanceId → Bool
  pub used_are : (u : Use) → (used u ≡ true) ↔ InCone b c p u
  pub owned_are : (j : InstanceId) → (owned j ≡ true) ↔ IsOwned b c p j
  pub are : lines ≡ lines_of b c used owned
