-- What the JSON of a saved case says: its version, its answers and its lists.
use Rattle.std.specs.Prelude.{ℕ, ◌+◌, ◌==◌, ◌&&◌, nat_lt, Bool, true, false, not, List, [], ◌∷◌, Option, None, Some, codes, map, if◌then◌else◌}
use Rattle.std.specs.Option.{option_map, option_and_then, option_map_or}
use Rattle.std.specs.List.{list_any}
use Rattle.std.specs.Ordering.{nat_cmp, ordering_then, is_eq}
use Rattle.std.specs.Cmp.Lexicographic.{slice_cmp}
use Rattle.std.specs.Str.{bytes_eq}
use Rattle.std.specs.declared.cmp.Ordering.{Ordering}
use Rattle.serde_json.specs.Data.{Data, Items, no_items, item}
use Rattle.serde_json.specs.Events.{members_len}
use Rattle.serde_json.specs.Find.{get, as_str, as_number, as_u64, as_array, as_object}
use Rattle.opa_date.specs.declared.TheConstants.{DAYS}
use Rattle.opa_value.specs.declared.value.Value.{Value}
use Rattle.opa_value.specs.declared.value.Value.TheVariants as value
use Rattle.opa_line.specs.declared.pairs.LineFault.{LineFault}
use Rattle.opa_line.specs.Lines.{at, value_or, canon}
use Rattle.opa_line.specs.Pairs.{fault_of}
use Rattle.opa_case.specs.Cases.{Answer}
use Rattle.opa_saved.specs.declared.entries.Point.{Point}
use Rattle.opa_saved.specs.declared.entries.AnswerEntry.{AnswerEntry}
use Rattle.opa_saved.specs.declared.entries.ListEntry.{ListEntry}
use Rattle.opa_saved.specs.declared.entries.Version.{Version}
use Rattle.opa_saved.specs.declared.entries.Version.TheVariants.{First, Second}
use Rattle.opa_saved.specs.Texts.{value_of, clean, same_value}

-- ---- parts of JSON

-- what each of them says, where each says something
abbrev pub each : {A B : Type 0} → (A → Option B) → List A → Option (List B)
each f [] = Some []
each f (x ∷ xs) = option_and_then (λ y. option_map (λ ys. y ∷ ys) (each f xs)) (f x)

abbrev pub listed : Items → List Data
listed no_items = []
listed (item d ds) = d ∷ listed ds

abbrev pub items_in : Data → Option (List Data)
items_in d = option_map listed (as_array d)

-- a whole number that isn't below zero
abbrev pub whole : Data → Option ℕ
whole d = option_and_then as_u64 (as_number d)

-- the object has so many members
abbrev pub has_size : ℕ → Data → Bool
has_size n d = option_map_or (λ ms. members_len ms == n) (as_object d) false

-- what a member says
abbrev pub member_in : {A : Type 0} → List ℕ → (Data → Option A) → Data → Option A
member_in key f d = option_and_then f (get key d)

-- ---- lines

-- A day of version 1 counts from 1800-01-01 and is below 146,097; it is raised to one of the calendar, but for day 0.
abbrev pub first_day_in : ℕ → Option ℕ
first_day_in n = if n == 0 then Some 0 else (if nat_lt n 146097 then Some (n + 73049) else None)

abbrev pub second_day_in : ℕ → Option ℕ
second_day_in n = if nat_lt n DAYS then Some n else None

abbrev pub day_in : Version → ℕ → Option ℕ
day_in First n = first_day_in n
day_in (Second g) n = second_day_in n

abbrev pub day_at : Version → Data → Option ℕ
day_at v d = option_and_then (day_in v) (whole d)

abbrev pub value_in : Data → Option Value
value_in d = option_and_then value_of (as_str d)

-- a day and the value from that day on
abbrev pub pair_with : Version → Data → Data → Option (ℕ × Value)
pair_with v d t = option_and_then (λ day. option_map (λ x. (day, x)) (value_in t)) (day_at v d)

abbrev pub pair_of : Version → List Data → Option (ℕ × Value)
pair_of v [] = None
pair_of v (d ∷ []) = None
pair_of v (d ∷ t ∷ []) = pair_with v d t
pair_of v (d ∷ t ∷ e ∷ ds) = None

abbrev pub pair_in : Version → Data → Option (ℕ × Value)
pair_in v d = option_and_then (pair_of v) (items_in d)

abbrev pub pairs_in : Version → Data → Option Answer
pairs_in v d = option_and_then (each (pair_in v)) (items_in d)

abbrev pub unless_fault : {A : Type 0} → Option LineFault → A → Option A
unless_fault None x = Some x
unless_fault (Some f) x = None

-- the value of a day, by pairs of days and values
abbrev pub value_on : Answer → ℕ → Value
value_on pairs d = value_or value.Unknown (at pairs d)

-- the line that has these values
abbrev pub line_of : Answer → Answer
line_of pairs = canon same_value DAYS (value_on pairs)

abbrev pub line_in : Version → Data → Option Answer
line_in v d = option_and_then (λ pairs. unless_fault (fault_of pairs) (line_of pairs)) (pairs_in v d)

-- ---- entries

-- the name of an instance
abbrev pub name_in : Data → Option (List ℕ)
name_in d = option_and_then clean (as_str d)

abbrev pub names_in : Data → Option (List (List ℕ))
names_in d = option_and_then (each name_in) (items_in d)

abbrev pub point_at : List ℕ → List ℕ → Point
point_at phrase name = record { phrase = phrase; name = name }

-- a phrase behind a key, and an instance behind `of`
abbrev pub point_in : List ℕ → Data → Option Point
point_in key d = option_and_then (λ phrase. option_map (point_at phrase) (member_in (codes "of") name_in d)) (member_in key as_str d)

abbrev pub answer_with : Option Point → Option Answer → Option AnswerEntry
answer_with p l = option_and_then (λ point. option_map (λ line. record { point = point; line = line }) l) p

abbrev pub list_with : Option Point → Option (List (List ℕ)) → Option ListEntry
list_with p l = option_and_then (λ point. option_map (λ names. record { point = point; names = names }) l) p

-- `{"attribute":PHRASE,"line":[[DAY,VALUE],..],"of":NAME}`
unfoldable pub answer_in : Version → Data → Option AnswerEntry
answer_in v d = if has_size 3 d then answer_with (point_in (codes "attribute") d) (member_in (codes "line") (line_in v) d) else None

-- `{"list":PHRASE,"names":[NAME,..],"of":NAME}`
unfoldable pub list_in : Data → Option ListEntry
list_in d = if has_size 3 d then list_with (point_in (codes "list") d) (member_in (codes "names") names_in d) else None

-- ---- points

abbrev pub point_cmp : Point → Point → Ordering
point_cmp p q = ordering_then (slice_cmp nat_cmp p.phrase q.phrase) (slice_cmp nat_cmp p.name q.name)

abbrev pub is_point : Point → Point → Bool
is_point p q = is_eq (point_cmp p q)

-- no point stands twice
abbrev pub differ : List Point → Bool
differ [] = true
differ (p ∷ ps) = not (list_any (is_point p) ps) && differ ps

abbrev pub answer_points : List AnswerEntry → List Point
answer_points es = map (λ e. e.point) es

abbrev pub list_points : List ListEntry → List Point
list_points es = map (λ e. e.point) es

abbrev pub answers_apart : List AnswerEntry → Option (List AnswerEntry)
answers_apart es = if differ (answer_points es) then Some es else None

abbrev pub lists_apart : List ListEntry → Option (List ListEntry)
lists_apart es = if differ (list_points es) then Some es else None

unfoldable pub answers_in : Version → Data → Option (List AnswerEntry)
answers_in v d = option_and_then answers_apart (option_and_then (each (answer_in v)) (items_in d))

unfoldable pub lists_in : Data → Option (List ListEntry)
lists_in d = option_and_then lists_apart (option_and_then (each list_in) (items_in d))

-- ---- the whole

abbrev pub says_format : Data → Bool
says_format d = option_map_or (λ t. bytes_eq t (codes "policy-case")) (member_in (codes "format") as_str d) false

abbrev pub says_version : ℕ → Data → Bool
says_version n d = option_map_or (λ k. k == n) (member_in (codes "version") whole d) false

-- a whole number of 32 bits
abbrev pub digest_in : Data → Option ℕ
digest_in d = option_and_then (λ n. if nat_lt n 4294967296 then Some n else None) (whole d)

abbrev pub second_version : Data → Option Version
second_version d = option_map (λ n. Second n) (member_in (codes "model") digest_in d)

-- Version 1 has four members, and version 2 a digest besides.
abbrev pub version_in : Data → Option Version
version_in d =
    if has_size 4 d && says_version 1 d then Some First else
    (if has_size 5 d && says_version 2 d then second_version d else None)

pub record File : Type 0 where
  pub version : Version
  pub answers : List AnswerEntry
  pub lists : List ListEntry

abbrev pub file_at : Version → List AnswerEntry → List ListEntry → File
file_at v answers lists = record { version = v; answers = answers; lists = lists }

abbrev pub file_with : Version → Option (List AnswerEntry) → Option (List ListEntry) → Option File
file_with v o p = option_and_then (λ answers. option_map (file_at v answers) p) o

abbrev pub file_of : Version → Data → Option File
file_of v d = file_with v (member_in (codes "answers") (answers_in v) d) (member_in (codes "lists") lists_in d)

-- what a saved case says, where the value has the form of one
unfoldable pub file_in : Data → Option File
file_in d = if says_format d then option_and_then (λ v. file_of v d) (version_in d) else None
