-- What the calls of a source, a sink and a shelf do to what these have left, have written and keep, and to their
-- counts of faults.
use Rattle.std.specs.Prelude.{◌≡◌, ◌≢◌, ℕ, ◌+◌, ◌-◌, ◌^◌, ◌<◌, ◌≤◌, min, List, ◌++◌, length, take, OnErr, MatchResult, Result, Vec, Some, None}
use Rattle.std.specs.declared.option.Option.{Option}
use Rattle.std.specs.declared.alloc.Global.{Global}
use Rattle.std.specs.Ordering.{nat_cmp}
use Rattle.std.specs.Cmp.Lexicographic.{slice_cmp}
use Rattle.std.specs.FinMap as map
use Rattle.std.specs.Io.KnownBytes.{Keeps as Stays, Appends, Consumes, IsAtEnd}
use Rattle.opa_io.specs.declared.fault.TakeFault.{TakeFault}
use Rattle.opa_io.specs.declared.fault.TakeFault.TheVariants.{Missing, TooLong, Failed, NoMemory}

-- a count of faults went up, or stands at the end of its type
abbrev pub Rose : ℕ → ℕ → Type 0
Rose before now = min (before + 1) (2 ^ 64 - 1) ≤ now

-- the count never falls, and a fault is answered only where it rose
pub record HasCause {T E : Type 0} (before now : ℕ) (result : Result T E) : Type 0 where
  pub later : before ≤ now
  pub failed : OnErr result (Rose before now)

-- What a read did: it moved the first bytes into the buffer, none of them only at the end or into an empty buffer.
-- A read that failed took none.
abbrev pub Reads : {E : Type 0} → Option (List ℕ) → Option (List ℕ) → Result ℕ E → List ℕ → Type 0
Reads old new r buf = MatchResult r (λ n. Consumes old new (take n buf) × (n ≡ 0 → 0 < length buf → IsAtEnd new)) (λ _. Stays old new)

-- What a write did: it appended the first bytes of the piece, at least one if there are any. One that failed appended none.
abbrev pub Writes : {E : Type 0} → Option (List ℕ) → Option (List ℕ) → Result ℕ E → List ℕ → Type 0
Writes old new r piece = MatchResult r (λ n. (n ≤ length piece) × (0 < length piece → 0 < n) × Appends old new (take n piece)) (λ _. Stays old new)

-- known bytes grew by a front of these
abbrev pub AppendsFront : Option (List ℕ) → Option (List ℕ) → List ℕ → Type 0
AppendsFront old new bytes = (front back : List ℕ) × (front ++ back ≡ bytes) × Appends old new front

-- all of the bytes were appended, or at a fault a front of them
abbrev pub AppendsAll : {T E : Type 0} → Option (List ℕ) → Option (List ℕ) → Result T E → List ℕ → Type 0
AppendsAll old new r bytes = MatchResult r (λ _. Appends old new bytes) (λ _. AppendsFront old new bytes)

-- files: from names to bytes
abbrev pub Files : Type 0
Files = map.FinMap (slice_cmp nat_cmp) (List ℕ)

-- these are the bytes of the file, where files are told
abbrev pub IsFile : Option Files → List ℕ → List ℕ → Type 0
IsFile None name bytes = Unit {0}
IsFile (Some files) name bytes = map.get files name ≡ Some bytes

-- The file isn't there, and that is no fault of the shelf. One that doesn't tell its files may say so only as a fault.
abbrev pub IsMissing : Option Files → List ℕ → ℕ → ℕ → Type 0
IsMissing None name before now = Rose before now
IsMissing (Some files) name before now = (map.get files name ≡ None) × (now ≡ before)

-- the file is there, and has more bytes than these
abbrev pub IsTooLong : Option Files → List ℕ → ℕ → Type 0
IsTooLong None name most = Unit {0}
IsTooLong (Some files) name most = (bytes : List ℕ) × (map.get files name ≡ Some bytes) × (most < length bytes)

-- what a fault of taking says
abbrev pub HasTakeCause : Option Files → List ℕ → ℕ → ℕ → ℕ → TakeFault → Type 0
HasTakeCause files name most before now Missing = IsMissing files name before now
HasTakeCause files name most before now TooLong = IsTooLong files name most
HasTakeCause files name most before now Failed = Rose before now
HasTakeCause files name most before now NoMemory = Unit {0}

-- what taking a file answers: its bytes, or a fault with its cause
abbrev pub Takes : Option Files → List ℕ → ℕ → Result (Vec ℕ Global) TakeFault → ℕ → ℕ → Type 0
Takes files name most r before now = MatchResult r (λ bytes. IsFile files name bytes.items) (HasTakeCause files name most before now)

-- every other name is as before
abbrev pub SameBut : List ℕ → Files → Files → Type 0
SameBut name old new = (other : List ℕ) → other ≢ name → map.get new other ≡ map.get old other

-- what keeping a file did: the name has the bytes, or at a fault every other name is as before
abbrev pub Keeps : {E : Type 0} → Option Files → Option Files → List ℕ → List ℕ → Result (Unit {0}) E → Type 0
Keeps None new name bytes r = Unit {0}
Keeps (Some old) None name bytes r = ⊥
Keeps (Some old) (Some new) name bytes r = MatchResult r (λ _. new ≡ map.insert old name bytes) (λ _. SameBut name old new)
