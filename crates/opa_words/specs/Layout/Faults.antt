-- Where a text breaks the rules of layout.
use Rattle.std.specs.Prelude.{◌≡◌, ℕ, ◌+◌, List, [], ◌∷◌, ◌++◌, Bool, not, ◌||◌, ◌&&◌, nat_lt, if◌then◌else◌}
use Rattle.opa_words.specs.declared.layout.fault.LayoutFault.{LayoutFault}
use Rattle.opa_words.specs.declared.layout.fault.LayoutFault.TheVariants as fault
use Rattle.opa_words.specs.Layout.Lines.{Row, rows}
use Rattle.opa_words.specs.Layout.Indents.{level, has_odd_space, is_passed}
use Rattle.opa_io.specs.declared.limits.TheConstants.{MOST_LINE, MOST_LEVEL}

-- over 65,536 bytes, or over level 64
abbrev pub is_over : Row → Bool
is_over r = nat_lt MOST_LINE r.size || (not (is_passed r.text) && nat_lt MOST_LEVEL (level r.text))

-- over the level that the line before allows, or with an odd space
abbrev pub is_astray : ℕ → Row → Bool
is_astray most r = not (is_passed r.text) && (nat_lt most (level r.text) || has_odd_space r.text)

-- the fault of a line that may have so many levels at most
abbrev pub fault_of : ℕ → Row → List LayoutFault
fault_of most r = if is_over r then fault.Limit r.number ∷ [] else (if is_astray most r then fault.Indent r.number ∷ [] else [])

-- a line may have one level more than the line before that is not passed over
abbrev pub next_most : ℕ → Row → ℕ
next_most most r = if is_passed r.text then most else level r.text + 1

abbrev pub faults_from : ℕ → List Row → List LayoutFault
faults_from most [] = []
faults_from most (r ∷ rs) = fault_of most r ++ faults_from (next_most most r) rs

-- all faults of a file by lines; the first line has level 0
abbrev pub layout_faults : List ℕ → List LayoutFault
layout_faults bytes = faults_from 0 (rows bytes)

abbrev pub IsFirst : LayoutFault → List LayoutFault → Type 0
IsFirst f [] = ⊥
IsFirst f (g ∷ gs) = f ≡ g

-- the one fault of a line, but for want of memory
abbrev pub IsOnly : List LayoutFault → LayoutFault → Type 0
IsOnly fs (fault.Indent n) = fs ≡ fault.Indent n ∷ []
IsOnly fs (fault.Limit n) = fs ≡ fault.Limit n ∷ []
IsOnly fs fault.NoMemory = Unit {0}

-- the first of the file's faults, but for want of memory
abbrev pub IsCause : List ℕ → LayoutFault → Type 0
IsCause bytes (fault.Indent n) = IsFirst (fault.Indent n) (layout_faults bytes)
IsCause bytes (fault.Limit n) = IsFirst (fault.Limit n) (layout_faults bytes)
IsCause bytes fault.NoMemory = Unit {0}
