-- The first of many faults: by the turn of its kind, then by the place of its file, then by its line.
use Rattle.std.specs.Prelude.{◌≡◌, ℕ, List, [], ◌∷◌, ◌++◌, Bool, false, Option, Some, None, ◌==◌, nat_lt, if◌then◌else◌, Contains}
use Rattle.opa_tree.specs.declared.faults.RbFault.{RbFault}
use Rattle.opa_tree.specs.declared.faults.RbKind.{RbKind}
use Rattle.opa_tree.specs.declared.faults.RbKind.TheVariants.{Bytes, Syntax, Name, Scope, Kind, Twice, Cycle, Limit, Missing}

-- The turn of a kind: spelling, limits, names, scopes, kinds, what stands twice, circles. The other two are told before a file is read.
abbrev pub turn : RbKind → ℕ
turn Missing = 0
turn Bytes = 1
turn Syntax = 2
turn Limit = 3
turn Name = 4
turn Scope = 5
turn Kind = 6
turn Twice = 7
turn Cycle = 8

-- first by one number, and then by a test
abbrev pub by_number : ℕ → ℕ → Bool → Bool
by_number m n test = if m == n then test else nat_lt m n

-- one fault is before another
abbrev pub is_before : RbFault → RbFault → Bool
is_before a b = by_number (turn a.kind) (turn b.kind) (by_number a.file b.file (nat_lt a.line b.line))

-- the first of two, the first of equal ones
abbrev pub first_of : Option RbFault → Option RbFault → Option RbFault
first_of None other = other
first_of (Some a) None = Some a
first_of (Some a) (Some b) = if is_before b a then Some b else Some a

-- the first of many, the first of equal ones
abbrev pub first_fault : List RbFault → Option RbFault
first_fault [] = None
first_fault (a ∷ more) = first_of (Some a) (first_fault more)

-- It is one of them, none is before it, and there is none only where there are none.
abbrev pub IsFirst : List RbFault → Option RbFault → Type 0
IsFirst faults None = faults ≡ []
IsFirst faults (Some a) = Contains faults a × ((b : RbFault) → Contains faults b → is_before b a ≡ false)

-- the first of many faults is first
abbrev pub FirstFaultIsFirst : Type 0
FirstFaultIsFirst = (faults : List RbFault) → IsFirst faults (first_fault faults)

-- the first of two lists of faults is the first of their first ones
abbrev pub FirstOfParts : Type 0
FirstOfParts = (faults more : List RbFault) → first_fault (faults ++ more) ≡ first_of (first_fault faults) (first_fault more)
