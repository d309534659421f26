-- What the lines of a report tell of points, lists and containers.
use Rattle.std.specs.Prelude.{ℕ, Bool, ◌&&◌, ◌==◌, nat_le, if◌then◌else◌, List, [], ◌∷◌, Option, None, Some}
use Rattle.std.specs.Option.{option_or}
use Rattle.opa_value.specs.declared.value.Value.{Value}
use Rattle.opa_model.specs.declared.ids.AttrId.{AttrId}
use Rattle.opa_model.specs.declared.ids.RelId.{RelId}
use Rattle.opa_cells.specs.declared.instance.InstanceId.{InstanceId}
use Rattle.opa_cells.specs.Instances.{is_same}
use Rattle.opa_case.specs.Live.{Names}
use Rattle.opa_tree.specs.Mentions.{is_attr}
use Rattle.opa_report.specs.declared.lines.ReportLine.{ReportLine}
use Rattle.opa_report.specs.declared.lines.ReportLine.TheVariants as line
use Rattle.opa_verify.specs.Listed.Listings.{Listing}

-- what the first line tells that tells something
abbrev pub first_told : {X : Type 0} → (ReportLine → Option X) → List ReportLine → Option X
first_told f [] = None
first_told f (x ∷ lines) = option_or (f x) (first_told f lines)

abbrev pub is_rel : RelId → RelId → Bool
is_rel r q = r.0 == q.0

-- the value of a point, the list of a relation and the container of an instance by a line
abbrev pub value_by : AttrId → InstanceId → ℕ → ReportLine → Option Value
value_by a i d (line.Point b j s t v) = if is_attr a b && is_same i j && nat_le s d && nat_le d t then Some v else None
value_by a i d _ = None

abbrev pub list_by : RelId → InstanceId → ReportLine → Option (Option Names)
list_by r i (line.Members q j names) = if is_rel r q && is_same i j then Some names else None
list_by r i _ = None

abbrev pub container_by : InstanceId → ReportLine → Option InstanceId
container_by i (line.Member q k j) = if is_same i j then Some k else None
container_by i _ = None

-- what a report's lines list: of several lines the first counts
abbrev pub listing_of : List ReportLine → Listing
listing_of lines = record {
  value = λ a i d. first_told (value_by a i d) lines;
  members = λ r i. first_told (list_by r i) lines;
  container = λ i. first_told (container_by i) lines;
}
