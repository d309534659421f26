-- The mode `generate`: the transcript of the generated rulebase and its input.
use Rattle.std.specs.Prelude.{ℕ, pos, ◌≡◌, ◌≢◌, ◌⊎◌, ◌≤◌, ◌<◌, ◌*◌, List, [], ◌∷◌, ◌++◌, codes, Bool, true, Ok, Some}
use Rattle.std.specs.FinMap as map
use Rattle.std.specs.Io.KnownBytes.{Appends}
use Rattle.opa_io.specs.Outside.{Files, Rose}
use Rattle.opa_io.specs.declared.fault.Status.{Status}
use Rattle.opa_io.specs.declared.fault.Status.TheVariants as status
use Rattle.opa_script.specs.Examples.{rules_text, input_text}
use Rattle.opa_value.specs.NumberText.{read_number}
use Rattle.opa_top.specs.Checking.{IsTold}
use Rattle.opa_top.specs.Answering.{Answers}
use Rattle.opa_top.specs.Running.{Outside, IsUnused, a_run}
use Rattle.opa_io.specs.declared.limits.TheConstants.{MOST_PEOPLE}

-- the whole number that a text says
abbrev pub SaysNumber : ℕ → List ℕ → Type 0
SaysNumber n text = read_number text ≡ Ok (pos (n * 10000))

-- so many people aren't generated
abbrev pub IsOutOfRange : ℕ → Type 0
IsOutOfRange n = (n < 1) ⊎ (MOST_PEOPLE < n)

abbrev pub refused_number : List ℕ
refused_number = codes "refused: number" ++ 10 ∷ []

-- the generated rulebase, under its name
abbrev pub generated_name : List ℕ
generated_name = codes "generated.txt"

abbrev pub generated_files : Files
generated_files = map.from_entries ((generated_name, rules_text) ∷ [])

-- The generated rulebase and its input lie in memory, where taking a file and reading never fail. What is written, whom a run over
-- them tells, and the count of steps are outside of the program; its files and its input are as they were.
pub record IsMade (n : ℕ) (old new before after : Outside) : Type 0 where
  pub files : before.files ≡ Some generated_files
  pub input : before.left ≡ Some (input_text 1 n)
  pub takes : Rose before.takes after.takes → ⊥
  pub reads : Rose before.reads after.reads → ⊥
  pub written_before : before.written ≡ old.written
  pub written_after : after.written ≡ new.written
  pub hearers_before : before.hearers ≡ old.hearers
  pub hearers_after : after.hearers ≡ new.hearers
  pub writes_before : before.writes ≡ old.writes
  pub writes_after : after.writes ≡ new.writes
  pub steps_before : before.steps ≡ old.steps
  pub steps_after : after.steps ≡ new.steps
  pub kept : new.files ≡ old.files
  pub unread : new.left ≡ old.left

-- There was no memory for it, and nothing was done.
abbrev pub RunsOut : Outside → Outside → Status → Type 0
RunsOut old new result = (result ≡ status.NoMemory) × Appends old.written new.written [] × IsUnused old new

-- how it ended, where keeping a file in memory may have lacked memory
abbrev pub unless_lacking : Status → Bool → Status
unless_lacking status.WriteFault true = status.NoMemory
unless_lacking s _ = s

-- The generated lines are answered over the generated rulebase. Keeping a file fails there only for want of memory, which is the
-- answer then.
pub data AnswersExample (before after : Outside) : Status → Type 0 where
  answers : {result : Status} → Answers a_run generated_name before after result → (result ≡ status.WriteFault → Rose before.keeps after.keeps → ⊥) → AnswersExample before after result
  lacks : Answers a_run generated_name before after status.WriteFault → AnswersExample before after status.NoMemory

-- The lines of the generated input were carried out over the generated rulebase; or there was no memory to make them.
abbrev pub Generates : ℕ → Outside → Outside → Status → Type 0
Generates n old new result =
    RunsOut old new result
    ⊎ ((before : Outside) × (after : Outside) × IsMade n old new before after × AnswersExample before after result)

-- A number out of range is refused; for another so many people are generated, and the generated rulebase is accepted. Reading
-- never fails, and writing fails only where the sink does.
pub record IsGenerated (number : List ℕ) (old new : Outside) (result : Status) : Type 0 where
  pub no_read_fault : result ≢ status.ReadFault
  pub write_fault : result ≡ status.WriteFault → Rose old.writes new.writes
  pub refuses : (n : ℕ) → SaysNumber n number → IsOutOfRange n → RunsOut old new result ⊎ (IsTold status.Refused refused_number old.written new.written old.writes new.writes result × IsUnused old new)
  pub talks : (n : ℕ) → SaysNumber n number → 1 ≤ n → n ≤ MOST_PEOPLE → Generates n old new result
  pub accepted : (n : ℕ) → SaysNumber n number → 1 ≤ n → n ≤ MOST_PEOPLE → result ≢ status.Refused

-- the number is in range, or it isn't
abbrev pub IsSize : List ℕ → ℕ → Type 0
IsSize number size = (1 ≤ size) × (size ≤ MOST_PEOPLE) × ((n : ℕ) → SaysNumber n number → n ≡ size)

abbrev pub IsNoSize : List ℕ → Type 0
IsNoSize number = (n : ℕ) → SaysNumber n number → IsOutOfRange n
