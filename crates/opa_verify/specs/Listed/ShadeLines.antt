-- Lines of shades.
use Rattle.std.specs.Prelude.{ℕ, true, false, not, List, [], ◌∷◌, map, Bool, ◌&&◌, ◌||◌, nat_le, nat_lt, ◌+◌, if◌then◌else◌}
use Rattle.opa_date.specs.declared.TheConstants.{DAYS}
use Rattle.opa_value.specs.declared.value.Value.{Value}
use Rattle.opa_value.specs.declared.value.Value.TheVariants.{Uncertain, Bool as Truth}
use Rattle.opa_value.specs.Truth.{is_true, is_false}
use Rattle.opa_tree.specs.declared.kinds.WinKind.{WinKind}
use Rattle.opa_tree.specs.declared.kinds.WinKind.TheVariants as win
use Rattle.opa_line.specs.Lines.{at, value_or}
use Rattle.opa_window.specs.Windows.{before, on_or_after, years_since}
use Rattle.opa_code.specs.declared.over_lines.gathering.Gathering.{Gathering}
use Rattle.opa_code.specs.declared.over_lines.gathering.Gathering.TheVariants as gathering
use Rattle.opa_verify.specs.declared.listed.shade.Shade.{Shade}
use Rattle.opa_verify.specs.declared.listed.runs.Run.{Run}
use Rattle.opa_verify.specs.declared.listed.parts.Part.{Part}
use Rattle.opa_verify.specs.declared.listed.parts.Part.TheVariants as part
use Rattle.opa_verify.specs.Listed.Shades.{Shading, mapped, there, gone, counted_as, all_shade, any_shade}

abbrev pub ShadeLine : Type 0
ShadeLine = List (ℕ × Shade)

-- the shade of a line at a day, and those of several lines
abbrev pub shade_at : ShadeLine → ℕ → Shade
shade_at l d = value_or gone (at l d)

abbrev pub shades_at : List ShadeLine → ℕ → List Shade
shades_at lines d = map (λ l. shade_at l d) lines

-- the first of two that isn't missing
abbrev pub first_there : Shade → Shade → Shade
first_there h other = if h.missing then other else h

-- the day behind a day of the calendar, and else the calendar's end
abbrev pub behind : ℕ → ℕ
behind d = if nat_lt d DAYS then d + 1 else DAYS

-- what a run tells of a day
abbrev pub run_at : Run → ℕ → Shade
run_at r d = if nat_le r.start d && nat_le d r.end then there r.value else gone

-- what the first run tells that has the day
abbrev pub runs_at : List Run → ℕ → Shade
runs_at [] d = gone
runs_at (r ∷ runs) d = first_there (run_at r d) (runs_at runs d)

-- what is told of a shade as a value
abbrev pub part_of : Part → Shade → Value
part_of part.Value h = h.value
part_of part.Gap h = Truth h.missing
part_of (part.Counted b) h = counted_as (Truth b) h

-- of a value, and a truth value that is true where it is missing
abbrev pub shade_from : Value → Value → Shade
shade_from v gap = record { value = v; missing = is_true gap }

-- the value decides a truth table: false all, true any
abbrev pub decides : Bool → Value → Bool
decides true v = is_false v
decides false v = is_true v

-- what is decided isn't missing
abbrev pub unless_decided : Bool → Value → Value → Shade
unless_decided neutral v gap = record { value = v; missing = is_true gap && not (decides neutral v) }

-- all where what is missing counts as true, any where it counts as false
abbrev pub decided_shade : Bool → List Shade → Shade
decided_shade true hs = all_shade hs
decided_shade false hs = any_shade hs

abbrev pub table_of : Bool → Gathering
table_of true = gathering.All
table_of false = gathering.Any

-- true where one of both is true
abbrev pub either : Value → Value → Value
either v w = Truth (is_true v || is_true w)

-- a line as a shading, whatever encloses it
abbrev pub shading_of : ShadeLine → Shading
shading_of l enclosing d = shade_at l d

-- a function over time of one date
abbrev pub dated_shade : WinKind → Shade → ℕ → Shade
dated_shade win.Before h d = mapped (λ v. before v d) h
dated_shade win.OnOrAfter h d = mapped (λ v. on_or_after v d) h
dated_shade win.YearsSince h d = mapped (λ v. years_since v d) h
dated_shade _ h d = there Uncertain
