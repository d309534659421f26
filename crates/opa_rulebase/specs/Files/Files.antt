-- The files of a rulebase, as they stand on a shelf.
use Rattle.std.specs.Prelude.{ℕ, ◌≡◌, ◌≤◌, ◌+◌, nat_lt, List, [], ◌∷◌, length, ◌++◌, Bool, false, Option, Some, None, Result, Ok, Err, IfSome, slice_get, if◌then◌else◌}
use Rattle.std.specs.FinMap as map
use Rattle.opa_io.specs.Outside.{Files, Rose}
use Rattle.opa_io.specs.Texts.{text_of}
use Rattle.opa_words.specs.Layout.Lines.{rows}
use Rattle.opa_tree.specs.declared.faults.RbFault.{RbFault}
use Rattle.opa_tree.specs.declared.faults.RbKind.{RbKind}
use Rattle.opa_tree.specs.declared.faults.RbKind.TheVariants.{Bytes, Limit, Missing}
use Rattle.opa_rulebase.specs.declared.files.fault.Unread.{Unread}
use Rattle.opa_rulebase.specs.declared.files.fault.TakeError.{TakeError}
use Rattle.opa_rulebase.specs.declared.files.fault.TakeError.TheVariants as errors
use Rattle.opa_rulebase.specs.declared.files.source.FileLine.{FileLine}
use Rattle.opa_rulebase.specs.declared.files.source.SourceFile.{SourceFile}
use Rattle.opa_rulebase.specs.Files.FileLines.{AreFileLines}
use Rattle.opa_io.specs.declared.limits.TheConstants.{MOST_FILE, MOST_FILE_LINES}

abbrev pub fault_at : ℕ → ℕ → RbKind → RbFault
fault_at file line kind = record { file = file; line = line; kind = kind; cycle = [] }

abbrev pub unread : ℕ → ℕ → RbKind → List ℕ → Unread
unread file line kind name = record { fault = fault_at file line kind; name = name }

abbrev pub text_or_fault : Option (List ℕ) → Result (List ℕ) RbKind
text_or_fault None = Err Bytes
text_or_fault (Some text) = Ok text

-- a file of at most 8,388,608 bytes that are a text
abbrev pub text_in : Option (List ℕ) → Result (List ℕ) RbKind
text_in None = Err Missing
text_in (Some bytes) = if nat_lt MOST_FILE (length bytes) then Err Limit else text_or_fault (text_of bytes)

-- the text of a file, or the kind of its fault
abbrev pub text_under : Files → List ℕ → Result (List ℕ) RbKind
text_under files name = text_in (map.get files name)

abbrev pub source : List ℕ → Bool → List ℕ → SourceFile
source name is_table text = record { name = name; is_table = is_table; text = text }

-- these files, and those after them if there is no fault
abbrev pub with_more : List SourceFile → Result (List SourceFile) Unread → Result (List SourceFile) Unread
with_more before (Ok more) = Ok (before ++ more)
with_more before (Err u) = Err u

-- a file at this place, and those after it
abbrev pub file_then : ℕ → FileLine → Result (List ℕ) RbKind → Result (List SourceFile) Unread → Result (List SourceFile) Unread
file_then n l (Err kind) more = Err (unread n 0 kind l.name)
file_then n l (Ok text) more = with_more (source l.name l.is_table text ∷ []) more

-- the files that lines name, from this place on, or the first that can't be had
abbrev pub files_from : Files → ℕ → List FileLine → Result (List SourceFile) Unread
files_from files n [] = Ok []
files_from files n (l ∷ ls) = file_then n l (text_under files l.name) (files_from files (n + 1) ls)

-- The main file, and the lines of it that name others.
pub record IsMain (files : Files) (name : List ℕ) (text : List ℕ) (lines : List FileLine) : Type 0 where
  pub text_is : text_under files name ≡ Ok text
  pub lines_are : AreFileLines (rows text) lines

-- The main file and those that its lines name, in order, or the first fault: a main file that can't be had, more than a
-- hundred lines that name files, or the first of those files that can't be had.
pub data AreFiles (files : Files) (name : List ℕ) : Result (List SourceFile) Unread → Type 0 where
  no_main : (kind : RbKind) → text_under files name ≡ Err kind → AreFiles files name (Err (unread 0 0 kind name))
  too_many : (text : List ℕ) (lines : List FileLine) (over : FileLine) → IsMain files name text lines → slice_get lines MOST_FILE_LINES ≡ Some over → AreFiles files name (Err (unread 0 over.line Limit name))
  with_named : (text : List ℕ) (lines : List FileLine) → IsMain files name text lines → length lines ≤ MOST_FILE_LINES
      → AreFiles files name (with_more (source name false text ∷ []) (files_from files 1 lines))

-- why files weren't taken
abbrev pub HasTakeError : Option Files → (Files → Unread → Type 0) → ℕ → ℕ → TakeError → Type 0
HasTakeError told is before now (errors.Refused u) = IfSome told (λ files. is files u)
HasTakeError told is before now errors.ReadFault = Rose before now
HasTakeError told is before now errors.NoMemory = Unit {0}

-- the file of this name can't be had
abbrev pub RefusesFile : ℕ → List ℕ → Files → Unread → Type 0
RefusesFile place name files u = (kind : RbKind) × (text_under files name ≡ Err kind) × (u ≡ unread place 0 kind name)
