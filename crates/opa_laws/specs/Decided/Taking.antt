-- Files are taken and laid out in at most one way.
use Rattle.std.specs.Prelude.{ℕ, ◌≡◌, List, Result}
use Rattle.opa_io.specs.Outside.{Files}
use Rattle.opa_words.specs.declared.layout.block.Block.{Block}
use Rattle.opa_rulebase.specs.declared.files.fault.Unread.{Unread}
use Rattle.opa_rulebase.specs.declared.files.source.SourceFile.{SourceFile}
use Rattle.opa_rulebase.specs.Files.Files.{AreFiles}
use Rattle.opa_rulebase.specs.Files.Layouts.{AreLaid}

-- a name on a shelf gives at most one list of files, or one fault of a file, and never both
abbrev pub OneTaken : Type 0
OneTaken = (files : Files) (name : List ℕ) (a b : Result (List SourceFile) Unread) → AreFiles files name a → AreFiles files name b → a ≡ b

-- files are laid out in at most one list of blocks, whatever place the first has
abbrev pub OneLaying : Type 0
OneLaying = (n : ℕ) (files : List SourceFile) (bs cs : List Block) → AreLaid n files bs → AreLaid n files cs → bs ≡ cs
