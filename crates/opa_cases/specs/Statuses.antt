-- What each status of a caseload says.
use Rattle.std.specs.Prelude.{ℕ, ◌≡◌, ◌≢◌, ◌⊎◌, ◌≤◌, ◌+◌, List, length, take, IfSome, Result, Ok, Err}
use Rattle.std.specs.Io.KnownBytes.{Consumes, Appends, IsAtEnd}
use Rattle.opa_io.specs.Outside.{Rose, AppendsFront}
use Rattle.opa_io.specs.declared.fault.Status.{Status}
use Rattle.opa_io.specs.declared.fault.Status.TheVariants as status
use Rattle.opa_talk.specs.WholeInput.Outside.{MOST, Outside, IsUnused, IsSilent, ReadAtMost, ReadExactly, Calm}
use Rattle.opa_rulebase.specs.Loading.{Opens}
use Rattle.opa_tree.specs.declared.rulebase.Rulebase.{Rulebase}
use Rattle.opa_cases.specs.Serving.{SaysAll, SaysFront, SaysWhole}

-- how it ends where nothing fails
abbrev pub status_of : Result Rulebase (List ℕ) → Status
status_of (Ok base) = status.Done
status_of (Err text) = status.Refused

module _ (name : List ℕ) (old new : Outside) where
  -- the files open a rulebase, over which the replies to the lines of the whole input were written
  abbrev pub WroteAll : Type 0
  WroteAll = IfSome old.files (λ files. IfSome old.left (λ bytes. (base : Rulebase) × Opens files name (Ok base) × SaysAll base old new bytes))

  -- the files open a refusal, which was written
  abbrev pub WroteRefusal : Type 0
  WroteRefusal = IfSome old.files (λ files. (text : List ℕ) × Opens files name (Err text) × Appends old.written new.written text × IsUnused old new)

  -- nothing was written, or a front of a refusal, or a front of the replies to the lines that were read
  abbrev pub WroteFront : Type 0
  WroteFront =
      (read : List ℕ) × Consumes old.left new.left read
      × IfSome old.files (λ files. IsSilent old new ⊎ ((text : List ℕ) × Opens files name (Err text) × AppendsFront old.written new.written text × IsUnused old new) ⊎ ((base : Rulebase) × Opens files name (Ok base) × SaysFront base old new read))

  -- What was written: with Done the replies to the lines of the input, in order; with Refused the printed refusal; and else a front
  -- of what would have been written.
  abbrev pub Wrote : Status → Type 0
  Wrote status.Done = WroteAll
  Wrote status.Refused = WroteRefusal
  Wrote status.Usage = ⊥
  Wrote status.ReadFault = WroteFront
  Wrote status.WriteFault = WroteFront
  Wrote status.NoMemory = WroteFront
  Wrote status.InputLimit = WroteFront

  -- the replies to all lines whose line feed is among some of the bytes that were read
  abbrev pub WroteLines : (List ℕ → List ℕ) → Type 0
  WroteLines part = IfSome old.files (λ files. (base : Rulebase) × Opens files name (Ok base) × ((read : List ℕ) × Consumes old.left new.left read × SaysWhole base old new (part read)))

  -- Where the source failed or the input is too long, the replies to all lines whose line feed was read were written, of a too long
  -- input to those among its first 67,108,864 bytes.
  abbrev pub LeftOff : Status → Type 0
  LeftOff status.Done = Unit {0}
  LeftOff status.Refused = Unit {0}
  LeftOff status.Usage = Unit {0}
  LeftOff status.ReadFault = (Rose old.takes new.takes → ⊥) → WroteLines (λ read. read)
  LeftOff status.WriteFault = Unit {0}
  LeftOff status.NoMemory = Unit {0}
  LeftOff status.InputLimit = WroteLines (take MOST)

  abbrev pub OpensBase : Type 0
  OpensBase = IfSome old.files (λ files. (base : Rulebase) × Opens files name (Ok base))

  abbrev pub OpensRefusal : Type 0
  OpensRefusal = IfSome old.files (λ files. (text : List ℕ) × Opens files name (Err text))

  -- Each answer has its cause; it ends for the length of its input exactly where the byte after the most was read.
  abbrev pub HasCause : Status → Type 0
  HasCause status.Done = OpensBase × IsAtEnd new.left × ReadAtMost old new MOST
  HasCause status.Refused = OpensRefusal × IsUnused old new
  HasCause status.Usage = ⊥
  HasCause status.ReadFault = (Rose old.takes new.takes ⊎ Rose old.reads new.reads) × ReadAtMost old new MOST
  HasCause status.WriteFault = Rose old.writes new.writes × ReadAtMost old new MOST
  HasCause status.NoMemory = ReadAtMost old new MOST
  HasCause status.InputLimit = OpensBase × ReadExactly old new (MOST + 1)

-- Where nothing fails and the input is short enough, the answer is decided by what the files open, or memory ran out.
abbrev pub Completes : List ℕ → Outside → Outside → Status → Type 0
Completes name old new result =
    IfSome old.files (λ files. IfSome old.left (λ bytes. Calm old new → length bytes ≤ MOST → result ≢ status.NoMemory → (opened : Result Rulebase (List ℕ)) × Opens files name opened × (result ≡ status_of opened)))
