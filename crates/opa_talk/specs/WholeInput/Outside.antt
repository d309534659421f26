-- What is told of the outside of a program: the files of the shelf, the bytes that are left of the input, those that were written,
-- and the counts of faults of taking and keeping files, of reading and of writing.
use Rattle.std.specs.Prelude.{ℕ, ◌≡◌, ◌≤◌, List, [], length}
use Rattle.std.specs.declared.option.Option.{Option}
use Rattle.std.specs.Io.KnownBytes.{Appends, Consumes}
use Rattle.opa_io.specs.Outside.{Files, Rose}
use Rattle.opa_io.specs.declared.limits.TheConstants.{MOST_INPUT}

-- how many bytes an input may have
abbrev pub MOST : ℕ
MOST = MOST_INPUT

pub record Outside : Type 0 where
  pub files : Option Files
  pub left : Option (List ℕ)
  pub written : Option (List ℕ)
  pub takes : ℕ
  pub keeps : ℕ
  pub reads : ℕ
  pub writes : ℕ

abbrev pub outside : {F S K : Type 0} → (F → Option Files) → (F → ℕ) → (F → ℕ) → (S → Option (List ℕ)) → (S → ℕ) → (K → Option (List ℕ)) → (K → ℕ) → F → S → K → Outside
outside files takes keeps left reads written writes shelf input out = record {
  files = files shelf;
  left = left input;
  written = written out;
  takes = takes shelf;
  keeps = keeps shelf;
  reads = reads input;
  writes = writes out;
}

-- nothing was read and nothing was kept
pub record IsUnused (old new : Outside) : Type 0 where
  pub left : new.left ≡ old.left
  pub files : new.files ≡ old.files

-- nothing was written
abbrev pub IsSilent : Outside → Outside → Type 0
IsSilent old new = Appends old.written new.written []

-- so many bytes were read, or at most so many
abbrev pub ReadExactly : Outside → Outside → ℕ → Type 0
ReadExactly old new n = (read : List ℕ) × Consumes old.left new.left read × (length read ≡ n)

abbrev pub ReadAtMost : Outside → Outside → ℕ → Type 0
ReadAtMost old new n = (read : List ℕ) × Consumes old.left new.left read × (length read ≤ n)

-- no count of faults rose
pub record Calm (old new : Outside) : Type 0 where
  pub take : Rose old.takes new.takes → ⊥
  pub keep : Rose old.keeps new.keeps → ⊥
  pub read : Rose old.reads new.reads → ⊥
  pub write : Rose old.writes new.writes → ⊥
