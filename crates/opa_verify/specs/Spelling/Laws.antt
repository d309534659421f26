-- What holds of spelled texts.
use Rattle.std.specs.Prelude.{◌≡◌, ◌<◌, ◌^◌, ℕ, length}
use Rattle.opa_verify.specs.declared.spelling.printed.Spelled.{Spelled}
use Rattle.opa_verify.specs.Spelling.Lines.{Lined, lined}
use Rattle.opa_verify.specs.Spelling.Printed.{spelled_text}
use Rattle.opa_verify.specs.Spelling.Same.{SaysSame}
use Rattle.opa_verify.specs.Spelling.Spelling.{IsSpelled, Spells, IsUnspelledAt}

-- a text has at most one line that breaks it first, and none where it is spelled
abbrev pub OneFirstFault : Type 0
OneFirstFault = (t : Lined) (j k : ℕ) → IsUnspelledAt t j → IsUnspelledAt t k → j ≡ k

abbrev pub SpelledHasNone : Type 0
SpelledHasNone = (t : Lined) (r : Spelled) (k : ℕ) → Spells t r → IsUnspelledAt t k → ⊥

-- a report that can be printed is spelled by its text
abbrev pub TextsAreSpelled : Type 0
TextsAreSpelled = (s : Spelled) → IsSpelled s → length s.printed < 2 ^ 64 → Spells (lined (spelled_text s)) s

-- reports with the same text say the same
abbrev pub OneSpelling : Type 0
OneSpelling = (s t : Spelled) → IsSpelled s → IsSpelled t → length s.printed < 2 ^ 64 → length t.printed < 2 ^ 64 → spelled_text s ≡ spelled_text t → SaysSame s t
