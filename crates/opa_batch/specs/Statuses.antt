-- What each status of a batch says.
use Rattle.std.specs.Prelude.{ℕ, ◌≡◌, ◌≢◌, ◌⊎◌, ◌≤◌, ◌+◌, List, [], length, IfSome, Result, Ok, Err}
use Rattle.std.specs.Io.KnownBytes.{Appends, IsAtEnd}
use Rattle.opa_io.specs.Outside.{Rose, AppendsFront}
use Rattle.opa_io.specs.declared.fault.Status.{Status}
use Rattle.opa_io.specs.declared.fault.Status.TheVariants as status
use Rattle.opa_tree.specs.declared.rulebase.Rulebase.{Rulebase}
use Rattle.opa_rulebase.specs.Loading.{Opens}
use Rattle.opa_talk.specs.WholeInput.Outside.{MOST, Outside, IsUnused, ReadAtMost, ReadExactly, Calm}
use Rattle.opa_batch.specs.Batches.{Gives}

module _ (name : List ℕ) (old new : Outside) where
  -- the files open a rulebase, and what it makes of the whole input, ending so, was written
  abbrev pub WroteOver : Status → Type 0
  WroteOver good = IfSome old.files (λ files. IfSome old.left (λ bytes. (base : Rulebase) × Opens files name (Ok base) × ((text : List ℕ) × Gives base bytes good text × Appends old.written new.written text)))

  -- the files open a refusal, which was written
  abbrev pub WroteRefusal : Type 0
  WroteRefusal = IfSome old.files (λ files. (text : List ℕ) × Opens files name (Err text) × Appends old.written new.written text × IsUnused old new)

  -- a front of what the files and the input give
  abbrev pub WroteFront : Type 0
  WroteFront = IfSome old.files (λ files. IfSome old.left (λ bytes.
      Appends old.written new.written []
      ⊎ (((text : List ℕ) × Opens files name (Err text) × AppendsFront old.written new.written text)
      ⊎ ((base : Rulebase) × Opens files name (Ok base) × ((good : Status) × (text : List ℕ) × Gives base bytes good text × AppendsFront old.written new.written text)))))

  -- What was written: with Done the heading and the rows, with Refused the printed refusal, of the rulebase or of the input, and
  -- else a front of these.
  abbrev pub Wrote : Status → Type 0
  Wrote status.Done = WroteOver status.Done
  Wrote status.Refused = WroteRefusal ⊎ WroteOver status.Refused
  Wrote status.Usage = ⊥
  Wrote status.ReadFault = WroteFront
  Wrote status.WriteFault = WroteFront
  Wrote status.NoMemory = WroteFront
  Wrote status.InputLimit = WroteFront

  abbrev pub OpensBase : Type 0
  OpensBase = IfSome old.files (λ files. (base : Rulebase) × Opens files name (Ok base))

  -- the input was read to its end
  abbrev pub ReadIt : Type 0
  ReadIt = IsAtEnd new.left × ReadAtMost old new MOST

  -- the files open a refusal, or what they open refuses the input that was read
  abbrev pub IsRefused : Type 0
  IsRefused = WroteRefusal ⊎ (WroteOver status.Refused × ReadIt)

  -- Each answer has its cause; an input is too long exactly where the byte after the most was read.
  abbrev pub HasCause : Status → Type 0
  HasCause status.Done = OpensBase × ReadIt
  HasCause status.Refused = IsRefused
  HasCause status.Usage = ⊥
  HasCause status.ReadFault = (Rose old.takes new.takes ⊎ Rose old.reads new.reads) × ReadAtMost old new MOST
  HasCause status.WriteFault = Rose old.writes new.writes × ReadAtMost old new MOST
  HasCause status.NoMemory = ReadAtMost old new MOST
  HasCause status.InputLimit = OpensBase × ReadExactly old new (MOST + 1)

-- how a batch ends that what is opened decides
abbrev pub IsAnswered : Result Rulebase (List ℕ) → List ℕ → Status → Type 0
IsAnswered (Ok base) bytes result = (text : List ℕ) × Gives base bytes result text
IsAnswered (Err text) bytes result = result ≡ status.Refused

-- Where nothing fails and the input is short enough, the answer is decided by what the files open and the input gives, or memory
-- ran out.
abbrev pub Completes : List ℕ → Outside → Outside → Status → Type 0
Completes name old new result =
    IfSome old.files (λ files. IfSome old.left (λ bytes. Calm old new → length bytes ≤ MOST → result ≢ status.NoMemory → (opened : Result Rulebase (List ℕ)) × Opens files name opened × IsAnswered opened bytes result))
