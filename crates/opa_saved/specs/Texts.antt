-- The values that texts of a saved case say.
use Rattle.std.specs.Prelude.{ℕ, ℤ, ◌==◌, Bool, true, false, not, List, Option, None, Some, codes, take, drop, length, if◌then◌else◌}
use Rattle.std.specs.Option.{option_map, option_and_then}
use Rattle.std.specs.Ordering.{int_eq}
use Rattle.std.specs.Str.{bytes_eq}
use Rattle.opa_value.specs.declared.value.Value.{Value}
use Rattle.opa_value.specs.declared.value.Value.TheVariants as value
use Rattle.opa_value.specs.NumberText.{plain_text}
use Rattle.opa_cells.specs.Instances.{is_text}
use Rattle.opa_case.specs.Clean.{is_clean_text}
use Rattle.opa_text.specs.Readers.{number_of, day_of}

-- what follows these bytes at the front
abbrev pub after : List ℕ → List ℕ → Option (List ℕ)
after front t = if bytes_eq (take (length front) t) front then Some (drop (length front) t) else None

-- a text without control characters
abbrev pub clean : List ℕ → Option (List ℕ)
clean t = if is_clean_text t then Some t else None

-- the number, where this is its plain text
abbrev pub plainly : List ℕ → ℤ → Option Value
plainly t n = if bytes_eq (plain_text n) t then Some (value.Num n) else None

abbrev pub number_value : List ℕ → Option Value
number_value t = option_and_then (plainly t) (number_of t)

abbrev pub text_value : List ℕ → Option Value
text_value t = option_map (λ u. value.Words u) (clean t)

abbrev pub day_value : List ℕ → Option Value
day_value t = option_map (λ d. value.Day d) (day_of t)

-- behind `n:`, `t:` or `d:`
abbrev pub plain_value : Option (List ℕ) → Option (List ℕ) → Option (List ℕ) → Option Value
plain_value (Some t) o p = number_value t
plain_value None (Some t) p = text_value t
plain_value None None (Some t) = day_value t
plain_value None None None = None

unfoldable pub typed_value : List ℕ → Option Value
typed_value t = plain_value (after (codes "n:") t) (after (codes "t:") t) (after (codes "d:") t)

-- the value that a text says
abbrev pub value_of : List ℕ → Option Value
value_of t =
    if bytes_eq t (codes "?") then Some value.Unknown else
    if bytes_eq t (codes "u") then Some value.Uncertain else
    if bytes_eq t (codes "b:true") then Some (value.Bool true) else
    if bytes_eq t (codes "b:false") then Some (value.Bool false) else typed_value t

-- ---- whether two values are one

abbrev pub is_alike : Bool → Bool → Bool
is_alike true b = b
is_alike false b = not b

abbrev pub same_value : Value → Value → Bool
same_value value.Unknown value.Unknown = true
same_value value.Uncertain value.Uncertain = true
same_value (value.Bool a) (value.Bool b) = is_alike a b
same_value (value.Num m) (value.Num n) = int_eq m n
same_value (value.Words s) (value.Words t) = is_text s t
same_value (value.Day a) (value.Day b) = a == b
same_value _ _ = false
