-- The text of a report, as it is printed: nothing of it is looked up.
use Rattle.std.specs.Prelude.{ℕ, ◌+◌, List, [], ◌∷◌, ◌++◌, Option, None, Some, codes}
use Rattle.std.specs.Fmt.{decimal}
use Rattle.opa_date.specs.Texts.{day_text}
use Rattle.opa_value.specs.declared.value.Value.{Value}
use Rattle.opa_model.specs.declared.things.Kind.{Kind}
use Rattle.opa_words.specs.Kinds.{quoted}
use Rattle.opa_text.specs.Points.{names_text}
use Rattle.opa_text.specs.Texts.{value_text}
use Rattle.opa_verify.specs.declared.spelling.printed.Spot.{Spot}
use Rattle.opa_verify.specs.declared.spelling.printed.Origin.{Origin}
use Rattle.opa_verify.specs.declared.spelling.printed.Origin.TheVariants as origin
use Rattle.opa_verify.specs.declared.spelling.printed.Printed.{Printed}
use Rattle.opa_verify.specs.declared.spelling.printed.Printed.TheVariants as printed
use Rattle.opa_verify.specs.declared.spelling.printed.Spelled.{Spelled}

-- ` of "NAME"`, and nothing for the global instance
abbrev pub name_part : Option (List ℕ) → List ℕ
name_part None = []
name_part (Some n) = codes " of " ++ quoted n

abbrev pub spot_text : Spot → List ℕ
spot_text p = p.phrase ++ name_part p.name

-- `rule FILE:LINE`
abbrev pub place_text : List ℕ → ℕ → List ℕ
place_text file line = codes "rule " ++ (file ++ (codes ":" ++ decimal line))

abbrev pub origin_text : Origin → List ℕ
origin_text (origin.Rule file line) = place_text file line
origin_text origin.Answer = codes "answer"
origin_text origin.Unanswered = codes "unanswered"

-- `DATE to DATE`
abbrev pub days_text : ℕ → ℕ → List ℕ
days_text s t = day_text s ++ (codes " to " ++ day_text t)

-- `VALUE, ORIGIN`
abbrev pub told_text : Kind → Value → Origin → List ℕ
told_text k v o = value_text k v ++ (codes ", " ++ origin_text o)

-- `POINT, DATE to DATE: VALUE, ORIGIN`
abbrev pub placed_text : Spot → List ℕ → List ℕ → List ℕ
placed_text p days told = spot_text p ++ (codes ", " ++ (days ++ (codes ": " ++ told)))

-- `list POINT: NAMES`
abbrev pub members_text : Spot → Option (List (List ℕ)) → List ℕ
members_text p names = codes "list " ++ (spot_text p ++ (codes ": " ++ names_text names))

-- `member POINT: "NAME"`
abbrev pub member_text : Spot → List ℕ → List ℕ
member_text p n = codes "member " ++ (spot_text p ++ (codes ": " ++ quoted n))

abbrev pub printed_text : Printed → List ℕ
printed_text (printed.Point p s t k v o) = placed_text p (days_text s t) (told_text k v o)
printed_text (printed.Members p names) = members_text p names
printed_text (printed.Member p n) = member_text p n

-- a line with its number and its line feed
abbrev pub numbered_line : ℕ → Printed → List ℕ
numbered_line n x = decimal n ++ (codes " " ++ (printed_text x ++ 10 ∷ []))

abbrev pub end_line : List ℕ
end_line = codes "end" ++ 10 ∷ []

abbrev pub numbered_lines : ℕ → List Printed → List (List ℕ)
numbered_lines n [] = end_line ∷ []
numbered_lines n (x ∷ xs) = numbered_line n x ∷ numbered_lines (n + 1) xs

-- `report POINT at DATE`
abbrev pub dated_text : List ℕ → List ℕ → List ℕ
dated_text point date = codes "report " ++ (point ++ (codes " at " ++ (date ++ 10 ∷ [])))

abbrev pub head_line : Spot → ℕ → List ℕ
head_line p d = dated_text (spot_text p) (day_text d)

-- the head, the lines from 1 on, and the end, each with its line feed
abbrev pub report_lines : Spelled → List (List ℕ)
report_lines r = head_line r.asked r.day ∷ numbered_lines 1 r.printed

-- lines numbered from n on, one behind the other
abbrev pub lines_text : ℕ → List Printed → List ℕ
lines_text n [] = []
lines_text n (x ∷ xs) = numbered_line n x ++ lines_text (n + 1) xs

-- the whole text
abbrev pub spelled_text : Spelled → List ℕ
spelled_text r = head_line r.asked r.day ++ (lines_text 1 r.printed ++ end_line)
