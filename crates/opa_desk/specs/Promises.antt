-- What the desk promises, whatever words, rulebase, input and outside it is given.
use Rattle.std.specs.Prelude.{String, map, ℕ, ◌≡◌, List, None, Some}
use Rattle.std.specs.String.{string_bytes}
use Rattle.std.specs.declared.alloc.Global.{Global}
use Rattle.opa_io.specs.declared.fault.Status.{Status}
use Rattle.opa_io.specs.declared.fault.Status.TheVariants as status
use Rattle.opa_talk.specs.WholeInput.Outside.{Outside, IsUnused}
use Rattle.opa_talk.specs.WholeInput.Telling.{IsTold}
use Rattle.opa_batch.specs.Counting.{Counts}
use Rattle.opa_batch.specs.Promises.{Promises as PromisesOfBatch}
use Rattle.opa_cases.specs.Promises.{Promises as PromisesOfCases}
use Rattle.opa_desk.specs.declared.reading.Mode.{Mode}
use Rattle.opa_desk.specs.declared.reading.Mode.TheVariants as mode
use Rattle.opa_desk.specs.Asked.{asked_of, usage}
use Rattle.opa_desk.specs.Only.{OnlyBatch, OnlyCases}

abbrev pub words_of : List (String Global) → List (List ℕ)
words_of words = map (λ w. string_bytes w) words

-- the words of the command line ask for the mode over the name
abbrev pub Asks : List (String Global) → Mode → List ℕ → Type 0
Asks words m name = asked_of (words_of words) ≡ Some (m, name)

-- the usage line was written, and nothing was read or kept
pub record SaysUsage (old new : Outside) (result : Status) : Type 0 where
  pub told : IsTold status.Usage usage old.written new.written old.writes new.writes result
  pub unused : IsUnused old new

-- The mode `batch` counts no more steps than a batch over the name.
abbrev pub CountsAsked : List (String Global) → Outside → Outside → ℕ → ℕ → Type 0
CountsAsked words old new before now = (name : List ℕ) → Asks words mode.Batch name → Counts name old new before now

pub record Promises (words : List (String Global)) (old new : Outside) (result : Status) : Type 0 where
  -- Where the words are of no mode, the usage line is written.
  pub usage : asked_of (words_of words) ≡ None → SaysUsage old new result
  -- The mode `batch` is a batch over the name.
  pub batch : (name : List ℕ) → Asks words mode.Batch name → PromisesOfBatch name old new result
  -- The mode `cases` is a caseload over the name.
  pub cases : (name : List ℕ) → Asks words mode.Cases name → PromisesOfCases name old new result

-- Nothing else could have been written.
pub record Only (words : List (String Global)) (old new : Outside) (result : Status) : Type 0 where
  pub batch : (name : List ℕ) → Asks words mode.Batch name → OnlyBatch name old new result
  pub cases : (name : List ℕ) → Asks words mode.Cases name → OnlyCases name old new result
