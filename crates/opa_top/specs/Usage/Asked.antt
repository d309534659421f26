-- The mode that words ask for, and the name of its rulebase.
use Rattle.std.specs.Prelude.{ℕ, Bool, true, ◌&&◌, nat_le, List, [], ◌∷◌, length, drop, slice_get, codes, Option, Some, None, if◌then◌else◌}
use Rattle.std.specs.Char.{is_ascii_digit}
use Rattle.std.specs.List.{list_all}
use Rattle.std.specs.Option.{option_and_then}
use Rattle.std.specs.Str.{bytes_eq}
use Rattle.opa_top.specs.declared.usage.reading.Mode.{Mode}
use Rattle.opa_top.specs.declared.usage.reading.Mode.TheVariants as mode
use Rattle.opa_top.specs.Usage.Words.{positionals}

abbrev pub mode_named : List ℕ → Option Mode
mode_named word =
    if bytes_eq word (codes "run") then Some mode.Run
    else if bytes_eq word (codes "interview") then Some mode.Interview
    else if bytes_eq word (codes "check") then Some mode.Check
    else if bytes_eq word (codes "generate") then Some mode.Generate
    else None

-- one to nine digits
abbrev pub is_number : List ℕ → Bool
is_number word = nat_le 1 (length word) && nat_le (length word) 9 && list_all is_ascii_digit word

-- what a mode is asked over: a number of people, or any name of a rulebase
abbrev pub is_taken : Mode → List ℕ → Bool
is_taken mode.Run name = true
is_taken mode.Interview name = true
is_taken mode.Check name = true
is_taken mode.Generate name = is_number name
is_taken mode.Verify name = true

abbrev pub taken_by : List ℕ → Mode → Option (Mode × List ℕ)
taken_by name m = if is_taken m name then Some (m, name) else None

-- a rulebase by which a report is verified
abbrev pub verified_by : List ℕ → List ℕ → Option (Mode × List ℕ)
verified_by word name = if bytes_eq word (codes "verify") then Some (mode.Verify, name) else None

abbrev pub asked_by : Option (List ℕ) → Option (List ℕ) → Option (List ℕ) → Option (Mode × List ℕ)
asked_by (Some word) (Some name) None = option_and_then (taken_by name) (mode_named word)
asked_by (Some word) (Some name) (Some report) = verified_by word name
asked_by _ _ _ = None

-- a mode and one name, or `verify` and two
abbrev pub asked_in : List (List ℕ) → Option (Mode × List ℕ)
asked_in (word ∷ name ∷ []) = asked_by (Some word) (Some name) None
asked_in (word ∷ name ∷ report ∷ []) = asked_by (Some word) (Some name) (Some report)
asked_in _ = None

-- the positional words behind the program's name are a mode and one name, or `verify` and two
abbrev pub asked_of : List (List ℕ) → Option (Mode × List ℕ)
asked_of words = option_and_then asked_in (positionals (drop 1 words))

-- the third of the positional words
abbrev pub report_of : List (List ℕ) → Option (List ℕ)
report_of words = option_and_then (λ ps. slice_get ps 2) (positionals (drop 1 words))
