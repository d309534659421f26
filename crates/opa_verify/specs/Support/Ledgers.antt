-- What the lines of a report tell, by key: the runs of each point, the list of each relation, the container of each instance.
use Rattle.std.specs.Prelude.{◌≡◌, ℕ, ◌&&◌, nat_le, if◌then◌else◌, List, [], ◌∷◌, ◌++◌, Option, None, Some, unwrap_or}
use Rattle.std.specs.FinMap.{FinMap, get, insert}
use Rattle.std.specs.Option.{option_map, option_or}
use Rattle.opa_value.specs.declared.value.Value.{Value}
use Rattle.opa_model.specs.declared.ids.AttrId.{AttrId}
use Rattle.opa_model.specs.declared.ids.RelId.{RelId}
use Rattle.opa_cells.specs.declared.instance.InstanceId.{InstanceId}
use Rattle.opa_cells.specs.Instances.{is_same}
use Rattle.opa_cells.specs.Keys.{cell_cmp}
use Rattle.opa_case.specs.Live.{Names}
use Rattle.opa_tree.specs.Mentions.{is_attr}
use Rattle.opa_report.specs.declared.lines.ReportLine.{ReportLine}
use Rattle.opa_report.specs.declared.lines.ReportLine.TheVariants as line
use Rattle.opa_verify.specs.Listed.Listings.{Listing}
use Rattle.opa_verify.specs.declared.listed.runs.Run.{Run}
use Rattle.opa_verify.specs.declared.listed.sheet.Listed.{Listed}
use Rattle.opa_verify.specs.declared.listed.sheet.Listed.TheVariants as listed
use Rattle.opa_verify.specs.declared.support.ledger.Told.{Told}
use Rattle.opa_verify.specs.Support.Told.{first_told, list_by, container_by}

-- what the first run tells that has the day
abbrev pub run_told : ℕ → Run → Option Value
run_told d r = if nat_le r.start d && nat_le d r.end then Some r.value else None

abbrev pub runs_told : List Run → ℕ → Option Value
runs_told [] d = None
runs_told (r ∷ rs) d = option_or (run_told d r) (runs_told rs d)

-- the runs of a point that lines have, in their order
abbrev pub run_by : AttrId → InstanceId → ReportLine → List Run
run_by a i (line.Point b j s t v) = if is_attr a b && is_same i j then record { start = s; end = t; value = v } ∷ [] else []
run_by a i _ = []

abbrev pub runs_of : AttrId → InstanceId → List ReportLine → List Run
runs_of a i [] = []
runs_of a i (x ∷ lines) = run_by a i x ++ runs_of a i lines

-- a list as it is kept
abbrev pub kept_list : Option Names → Listed
kept_list None = listed.Unknown
kept_list (Some names) = listed.Known names

abbrev pub list_told : Option Listed → Option (Option Names)
list_told None = None
list_told (Some listed.Missing) = None
list_told (Some listed.Nowhere) = None
list_told (Some listed.Unknown) = Some None
list_told (Some (listed.Known names)) = Some (Some names)

-- what is kept as a listing
abbrev pub told_listing : Told → Listing
told_listing t = record {
  value = λ a i d. runs_told (unwrap_or (get t.runs (a.0, i)) []) d;
  members = λ r i. list_told (get t.lists (r.0, i));
  container = λ i. get t.containers (0, i);
}

-- what lines tell is kept, and nothing else
pub record Holds (t : Told) (lines : List ReportLine) : Type 0 where
  pub runs : (a : AttrId) (i : InstanceId) → unwrap_or (get t.runs (a.0, i)) [] ≡ runs_of a i lines
  pub lists : (r : RelId) (i : InstanceId) → get t.lists (r.0, i) ≡ option_map kept_list (first_told (list_by r i) lines)
  pub containers : (i : InstanceId) → get t.containers (0, i) ≡ first_told (container_by i) lines

-- a map with a value at a key, where it has none there
abbrev pub put_if_none : {V : Type 0} → FinMap cell_cmp V → ℕ × InstanceId → V → Option V → FinMap cell_cmp V
put_if_none m k v None = insert m k v
put_if_none m k v (Some w) = m

abbrev pub put_first : {V : Type 0} → FinMap cell_cmp V → ℕ × InstanceId → V → FinMap cell_cmp V
put_first m k v = put_if_none m k v (get m k)

-- a map with a run more at a key
abbrev pub put_run : FinMap cell_cmp (List Run) → ℕ × InstanceId → Run → FinMap cell_cmp (List Run)
put_run m k r = insert m k (unwrap_or (get m k) [] ++ r ∷ [])
