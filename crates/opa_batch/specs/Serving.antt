-- A batch over what the name opens: what it reads, writes, keeps and answers.
use Rattle.std.specs.Prelude.{ℕ, ◌≡◌, ◌≤◌, ◌+◌, List, length, Option, IfSome, Result, Ok, Err}
use Rattle.std.specs.Io.KnownBytes.{Consumes, IsAtEnd}
use Rattle.opa_io.specs.Outside.{Files, Rose}
use Rattle.opa_io.specs.declared.fault.Status.{Status}
use Rattle.opa_io.specs.declared.fault.Status.TheVariants as status
use Rattle.opa_model.specs.Models.{IsModel}
use Rattle.opa_tree.specs.declared.rulebase.Rulebase.{Rulebase}
use Rattle.opa_rulebase.specs.Loading.{Opens}
use Rattle.opa_talk.specs.WholeInput.Outside.{MOST, Outside, IsUnused, IsSilent, ReadAtMost, ReadExactly}
use Rattle.opa_talk.specs.WholeInput.Telling.{IsTold}
use Rattle.opa_talk.specs.declared.whole_input.stop.Stop.{Stop}
use Rattle.opa_talk.specs.declared.whole_input.stop.Stop.TheVariants as stop
use Rattle.opa_batch.specs.Batches.{Gives}

-- this is what the files open under the name, where they are told
abbrev pub IsOpened : Option Files → List ℕ → Result Rulebase (List ℕ) → Type 0
IsOpened told name opened = IfSome told (λ files. Opens files name opened)

-- The whole input was read over an accepted rulebase, and what it gives is written.
pub record Works (base : Rulebase) (old new : Outside) (result : Status) : Type 0 where
  pub read : List ℕ
  pub took : Consumes old.left new.left read
  pub within : length read ≤ MOST
  pub ended : IsAtEnd new.left
  pub good : Status
  pub text : List ℕ
  pub gives : Gives base read good text
  pub told : IsTold good text old.written new.written old.writes new.writes result

-- What became of a batch over an accepted rulebase: it was done; or the source failed, the input was too long or memory ran out,
-- and nothing was written.
pub data Decides (base : Rulebase) (old new : Outside) : Status → Type 0 where
  works : {result : Status} → Works base old new result → Decides base old new result
  cannot_read : Rose old.reads new.reads → ReadAtMost old new MOST → IsSilent old new → Decides base old new status.ReadFault
  too_long : ReadExactly old new (MOST + 1) → IsSilent old new → Decides base old new status.InputLimit
  runs_out : ReadAtMost old new MOST → IsSilent old new → Decides base old new status.NoMemory

-- A batch over what the name opens: the rulebase is accepted, and the input is decided; or it is refused, which is printed; or
-- nothing was loaded, for a fault of the shelf or for want of memory.
pub data Serves (name : List ℕ) (old new : Outside) : Status → Type 0 where
  decides : {result : Status} (base : Rulebase) → IsModel base.model → IsOpened old.files name (Ok base) → new.files ≡ old.files → Decides base old new result → Serves name old new result
  refuses : {result : Status} (text : List ℕ) → IsOpened old.files name (Err text) → IsUnused old new → IsTold status.Refused text old.written new.written old.writes new.writes result → Serves name old new result
  cannot_take : Rose old.takes new.takes → IsUnused old new → IsSilent old new → Serves name old new status.ReadFault
  cannot_hold : IsUnused old new → IsSilent old new → Serves name old new status.NoMemory

-- ---- on the way there

-- how a batch ends whose input wasn't read
abbrev pub stopped : Stop → Status
stopped stop.Input = status.ReadFault
stopped stop.Memory = status.NoMemory
stopped stop.Limit = status.InputLimit
