-- What is found in the files of a shelf.
use Rattle.std.specs.Prelude.{List, ℕ, [], Option, Some, None, Ok, Err}
use Rattle.opa_io.specs.Outside.{Files}
use Rattle.opa_tree.specs.declared.rulebase.Rulebase.{Rulebase}
use Rattle.opa_rulebase.specs.declared.files.fault.Unread.{Unread}
use Rattle.opa_rulebase.specs.declared.files.source.SourceFile.{SourceFile}
use Rattle.opa_rulebase.specs.Files.Files.{AreFiles}
use Rattle.opa_rulebase.specs.Loading.{IsAccepted}
use Rattle.opa_rules.specs.Faults.Listing.{AreErrors}
use Rattle.opa_rules.specs.Faults.Marks.{plain}
use Rattle.opa_rules.specs.Faults.Printed.{error_text}

-- the files are those of a rulebase
abbrev pub AreAccepted : List SourceFile → Type 0
AreAccepted files = (base : Rulebase) × IsAccepted files base

-- nothing, where the rulebase is accepted; or else the text of its errors
pub data Finds (files : Files) (name : List ℕ) : Option (List ℕ) → Type 0 where
  accepts : (sources : List SourceFile) → AreFiles files name (Ok sources) → AreAccepted sources → Finds files name None
  cannot_take : (u : Unread) → AreFiles files name (Err u) → Finds files name (Some (error_text u.name [] None (plain u.fault.line u.fault.kind None)))
  lists : (sources : List SourceFile) (text : List ℕ) → AreFiles files name (Ok sources) → AreErrors sources text → Finds files name (Some text)
