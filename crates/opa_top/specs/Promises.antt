-- What the program promises, whatever rulebase, input, listeners and outside it is given.
use Rattle.std.specs.Prelude.{String, map, ℕ, ◌≡◌, List, None, Some}
use Rattle.std.specs.String.{string_bytes}
use Rattle.std.specs.declared.alloc.Global.{Global}
use Rattle.std.specs.Io.KnownBytes.{IsAtEnd}
use Rattle.opa_io.specs.declared.fault.Status.{Status}
use Rattle.opa_io.specs.declared.fault.Status.TheVariants as status
use Rattle.opa_talk.specs.Transcript.{CutsAnywhere}
use Rattle.opa_top.specs.declared.usage.reading.Mode.{Mode}
use Rattle.opa_top.specs.declared.usage.reading.Mode.TheVariants as mode
use Rattle.opa_top.specs.Usage.Asked.{asked_of, report_of}
use Rattle.opa_top.specs.Checking.{Checks, IsOnlyCheck}
use Rattle.opa_top.specs.Generating.{IsGenerated}
use Rattle.opa_top.specs.Meaning.{Meaning}
use Rattle.opa_top.specs.Answering.{Answers}
use Rattle.opa_top.specs.Running.{Outside, IsUnused, a_run, an_interview}
use Rattle.opa_top.specs.Verifying.{IsOnlyVerdict, Verifies}
use Rattle.opa_top.specs.Statuses.{SaysUsage}

abbrev pub words_of : List (String Global) → List (List ℕ)
words_of words = map (λ w. string_bytes w) words

-- the words of the command line ask for the mode over the name
abbrev pub Asks : List (String Global) → Mode → List ℕ → Type 0
Asks words m name = asked_of (words_of words) ≡ Some (m, name)

-- What is promised of each run of the program.
pub record Promises (words : List (String Global)) (old new : Outside) (result : Status) : Type 0 where
  -- Where the words are not those of a mode, the usage line is written, and nothing is read, kept or told.
  pub usage : asked_of (words_of words) ≡ None → SaysUsage old new result
  -- The mode `check` tells what the files open under the name, and reads, keeps and tells nothing.
  pub checked : (name : List ℕ) → Asks words mode.Check name → Checks old.files name old.written new.written old.takes new.takes old.writes new.writes result
  pub only_checked : (name : List ℕ) → Asks words mode.Check name → IsOnlyCheck old.files name old.written new.written result
  pub unused : (name : List ℕ) → Asks words mode.Check name → IsUnused old new
  -- The mode `verify` tells whether the report in a file holds up its value; it reads, keeps and tells nothing else.
  pub verified : (name report : List ℕ) → Asks words mode.Verify name → report_of (words_of words) ≡ Some report → Verifies old.files name report old.written new.written old.takes new.takes old.writes new.writes result
  pub only_verified : (name report : List ℕ) → Asks words mode.Verify name → report_of (words_of words) ≡ Some report → IsOnlyVerdict old.written new.written result old.files name report
  pub still : (name : List ℕ) → Asks words mode.Verify name → IsUnused old new
  -- In the mode `run` each line is a command, and Done means that the input was read to its end.
  pub run : (name : List ℕ) → Asks words mode.Run name → Answers a_run name old new result
  pub read_all : (name : List ℕ) → Asks words mode.Run name → result ≡ status.Done → IsAtEnd new.left
  -- In the mode `interview` each line replies to what is asked, until every goal is known at every day.
  pub interview : (name : List ℕ) → Asks words mode.Interview name → Answers an_interview name old new result
  -- The mode `generate` has the transcript of a generated rulebase and its input; the files and the input are as they were. Reading
  -- never fails there, and writing fails only where the sink that is written to does.
  pub generated : (number : List ℕ) → Asks words mode.Generate number → IsGenerated number old new result
  -- An input may be cut at any line feed: the replies to the rest go on from what the first part leaves.
  pub parts : CutsAnywhere a_run.rule
  pub parts_asked : CutsAnywhere an_interview.rule
  -- What is shown means what it says.
  pub meaning : Meaning
