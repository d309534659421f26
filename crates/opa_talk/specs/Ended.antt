-- How a talk ended, by the status of its program: what was read of the input, and what is said of the bytes that were.
use Rattle.std.specs.Prelude.{ℕ, ◌≡◌, ◌⊎◌, ◌≤◌, ◌+◌, List, length, take}
use Rattle.std.specs.declared.option.Option.{Option}
use Rattle.std.specs.Io.KnownBytes.{Consumes}
use Rattle.opa_io.specs.Outside.{Rose}
use Rattle.opa_io.specs.declared.fault.Status.{Status}
use Rattle.opa_io.specs.declared.fault.Status.TheVariants as status

-- the counts of faults of taking and of keeping files, of reading and of writing
pub record Counts : Type 0 where
  pub takes : ℕ
  pub keeps : ℕ
  pub reads : ℕ
  pub writes : ℕ

-- some bytes were read, at most so many
abbrev pub ReadsSome : ℕ → Option (List ℕ) → Option (List ℕ) → (List ℕ → Type 0) → Type 0
ReadsSome most left left' P = (read : List ℕ) × Consumes left left' read × (length read ≤ most) × P read

-- With Done all lines were carried out. Where the source failed, and where the input is too long, those were whose line feed was
-- read; and where a file couldn't be taken or kept, nothing could be written or memory ran out, some of the lines that were read.
abbrev pub Ends : ℕ → Option (List ℕ) → Option (List ℕ) → Counts → Counts → (List ℕ → Type 0) → (List ℕ → Type 0) → (List ℕ → Type 0) → Status → Type 0
Ends most left left' old new All Whole Front status.Done = ReadsSome most left left' All
Ends most left left' old new All Whole Front status.Refused = ⊥
Ends most left left' old new All Whole Front status.Usage = ⊥
Ends most left left' old new All Whole Front status.ReadFault = ReadsSome most left left' (λ read. (Rose old.reads new.reads × Whole read) ⊎ (Rose old.takes new.takes × Front read))
Ends most left left' old new All Whole Front status.WriteFault = ReadsSome most left left' (λ read. (Rose old.writes new.writes ⊎ Rose old.keeps new.keeps) × Front read)
Ends most left left' old new All Whole Front status.NoMemory = ReadsSome most left left' Front
Ends most left left' old new All Whole Front status.InputLimit = (read : List ℕ) × Consumes left left' read × (length read ≡ most + 1) × Whole (take most read)
