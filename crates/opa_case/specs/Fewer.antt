-- How many instances have a known list, and how many live.
use Rattle.std.specs.Prelude.{◌<◌, ℕ, List, length, IsSome}
use Rattle.std.specs.List.{AllByRecursion, IsDistinct}
use Rattle.opa_model.specs.declared.ids.RelId.{RelId}
use Rattle.opa_cells.specs.declared.instance.InstanceId.{InstanceId}
use Rattle.opa_cells.specs.Instances.{is_same}
use Rattle.opa_case.specs.declared.counts.Counts.{Counts}
use Rattle.opa_case.specs.Homes.{AreCounts}
use Rattle.opa_case.specs.Live.{Lists, members, live_of}
use Rattle.opa_case.specs.Shapes.{Shape}

-- Fewer than n instances have a list of the relation: any that differ, and have one, are fewer.
abbrev pub AreFewer : Lists → RelId → ℕ → Type 0
AreFewer l r n = (xs : List InstanceId) → IsDistinct is_same xs → AllByRecursion (λ i. IsSome (l r i)) xs → length xs < n

-- What is counted is what these lists make live, each once.
pub record AreCounted (s : Shape) (l : Lists) (counts : Counts) : Type 0 where
  pub once : (e : ℕ) → IsDistinct is_same (members e (live_of s l))
  pub each : AreCounts counts (live_of s l)
