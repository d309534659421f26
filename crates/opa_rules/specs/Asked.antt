-- The mode that words ask for, and the name of its rulebase.
use Rattle.std.specs.Prelude.{ℕ, Bool, false, ◌&&◌, ◌==◌, List, [], ◌∷◌, ◌++◌, codes, Option, Some, None, if◌then◌else◌}
use Rattle.std.specs.Option.{option_map}
use Rattle.std.specs.Str.{bytes_eq}
use Rattle.opa_rules.specs.declared.reading.Mode.{Mode}
use Rattle.opa_rules.specs.declared.reading.Mode.TheVariants as mode

abbrev pub mode_named : List ℕ → Option Mode
mode_named word =
    if bytes_eq word (codes "describe") then Some mode.Describe else
    if bytes_eq word (codes "faults") then Some mode.Faults else
    if bytes_eq word (codes "print") then Some mode.Print else
    if bytes_eq word (codes "review") then Some mode.Review else None

abbrev pub begins_with_dash : List ℕ → Bool
begins_with_dash [] = false
begins_with_dash (b ∷ bytes) = b == 45

-- a mode over a name that doesn't begin with `-`
abbrev pub taken_by : List ℕ → List ℕ → Option (Mode × List ℕ)
taken_by word name = if begins_with_dash name then None else option_map (λ m. (m, name)) (mode_named word)

abbrev pub is_review_as_json : List ℕ → List ℕ → Bool
is_review_as_json word option = bytes_eq word (codes "review") && bytes_eq option (codes "--json")

-- the mode `review` with the option `--json`, over such a name
abbrev pub taken_as_json : List ℕ → List ℕ → List ℕ → Option (Mode × List ℕ)
taken_as_json word option name =
    if begins_with_dash name then None else
    if is_review_as_json word option then Some (mode.ReviewJson, name) else None

-- a mode and a name, behind the program's name; or with an option between them
abbrev pub asked_of : List (List ℕ) → Option (Mode × List ℕ)
asked_of (program ∷ word ∷ name ∷ []) = taken_by word name
asked_of (program ∷ word ∷ option ∷ name ∷ []) = taken_as_json word option name
asked_of _ = None

abbrev pub usage : List ℕ
usage = codes "usage: rules MODE NAME | rules review --json NAME" ++ 10 ∷ []
