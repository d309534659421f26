-- Which texts are spelled as reports, and the first line that breaks one which isn't.
use Rattle.std.specs.Prelude.{◌≡◌, ◌⊎◌, ℕ, Bool, true, not, ◌||◌, ◌==◌, ◌≤◌, ◌<◌, ◌+◌, ◌-◌, ◌^◌, List, [], ◌++◌, length, take, Option, None, Some, MatchOption}
use Rattle.std.specs.List.{list_all, AllByRecursion}
use Rattle.std.specs.Str.{IsUtf8}
use Rattle.opa_date.specs.declared.TheConstants.{DAYS}
use Rattle.opa_verbs.specs.Phrasing.{IsPhrase}
use Rattle.opa_text.specs.Laws.{CanBeQuoted, CanBeWritten}
use Rattle.opa_verify.specs.declared.spelling.printed.Spot.{Spot}
use Rattle.opa_verify.specs.declared.spelling.printed.Origin.{Origin}
use Rattle.opa_verify.specs.declared.spelling.printed.Origin.TheVariants as origin
use Rattle.opa_verify.specs.declared.spelling.printed.Printed.{Printed}
use Rattle.opa_verify.specs.declared.spelling.printed.Printed.TheVariants as printed
use Rattle.opa_verify.specs.declared.spelling.printed.Spelled.{Spelled}
use Rattle.opa_verify.specs.Spelling.Lines.{Lined}
use Rattle.opa_verify.specs.Spelling.Printed.{report_lines}

-- an instance's name isn't empty, and can be written between quotes
abbrev pub IsName : List ℕ → Type 0
IsName n = (0 < length n) × CanBeQuoted n

abbrev pub MayBeName : Option (List ℕ) → Type 0
MayBeName None = Unit {0}
MayBeName (Some n) = IsName n

abbrev pub AreNames : Option (List (List ℕ)) → Type 0
AreNames None = Unit {0}
AreNames (Some ns) = AllByRecursion IsName ns

-- a quote, a comma and a colon stand in no phrase
abbrev pub is_sign : ℕ → Bool
is_sign b = (b == 34) || ((b == 44) || (b == 58))

abbrev pub is_plain : List ℕ → Bool
is_plain t = list_all (λ b. not (is_sign b)) t

pub record CanBePhrase (t : List ℕ) : Type 0 where
  pub utf8 : IsUtf8 t
  pub phrase : IsPhrase t
  pub plain : is_plain t ≡ true

abbrev pub IsSpot : Spot → Type 0
IsSpot p = CanBePhrase p.phrase × MayBeName p.name

abbrev pub IsOrigin : Origin → Type 0
IsOrigin (origin.Rule file line) = CanBeQuoted file × (line < 2 ^ 32)
IsOrigin origin.Answer = Unit {0}
IsOrigin origin.Unanswered = Unit {0}

abbrev pub CanBePrinted : Printed → Type 0
CanBePrinted (printed.Point p s t k v o) = IsSpot p × ((s ≤ t) × ((t < DAYS) × (CanBeWritten k v × IsOrigin o)))
CanBePrinted (printed.Members p names) = IsSpot p × AreNames names
CanBePrinted (printed.Member p n) = IsSpot p × IsName n

-- a report that can be printed
pub record IsSpelled (r : Spelled) : Type 0 where
  pub asked : IsSpot r.asked
  pub day : r.day < DAYS
  pub printed : AllByRecursion CanBePrinted r.printed

-- a text is spelled: its lines are those of a report, and nothing is left
abbrev pub Spells : Lined → Spelled → Type 0
Spells t r = IsSpelled r × ((t.lines ≡ report_lines r) × (t.left ≡ []))

-- lines begin a report
abbrev pub BeginReport : List (List ℕ) → Type 0
BeginReport lines = (r : Spelled) × ((more : List (List ℕ)) × (IsSpelled r × (report_lines r ≡ lines ++ more)))

-- the lines before a line begin a report, and with it they don't
abbrev pub BreaksAt : List (List ℕ) → ℕ → Type 0
BreaksAt lines k = (0 < k) × ((k ≤ length lines) × (BeginReport (take (k - 1) lines) × (BeginReport (take k lines) → ⊥)))

-- all lines begin a report, but the text ends too early, or in a line without its end
abbrev pub EndsEarly : Lined → ℕ → Type 0
EndsEarly t k = (k ≡ length t.lines + 1) × (BeginReport t.lines × ((r : Spelled) → Spells t r → ⊥))

-- the first line that breaks a text
abbrev pub IsUnspelledAt : Lined → ℕ → Type 0
IsUnspelledAt t k = BreaksAt t.lines k ⊎ EndsEarly t k

-- what is read of a text: nothing that can be printed is printed so, or this is
abbrev pub Reads : {X : Type 0} → (X → Type 0) → (X → List ℕ) → List ℕ → Option X → Type 0
Reads {X} P told bytes o = MatchOption o ((x : X) → P x → told x ≡ bytes → ⊥) (λ x. P x × (told x ≡ bytes))
