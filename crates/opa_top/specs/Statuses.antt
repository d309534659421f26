-- What each status of a run, or of an interview, says.
use Rattle.std.specs.Prelude.{ℕ, ◌≡◌, ◌≢◌, ◌⊎◌, ◌≤◌, ◌+◌, List, [], ◌∷◌, ◌++◌, length, take, codes, IfSome, Result, Ok, Err}
use Rattle.std.specs.Io.KnownBytes.{Consumes, Appends, IsAtEnd}
use Rattle.opa_io.specs.Outside.{Rose, AppendsFront}
use Rattle.opa_io.specs.declared.fault.Status.{Status}
use Rattle.opa_io.specs.declared.fault.Status.TheVariants as status
use Rattle.opa_talk.specs.Lines.{input_lines}
use Rattle.opa_talk.specs.Transcript.{IsTranscript}
use Rattle.opa_tree.specs.declared.rulebase.Rulebase.{Rulebase}
use Rattle.opa_reply.specs.Held.{Held}
use Rattle.opa_rulebase.specs.Loading.{Opens}
use Rattle.opa_top.specs.Checking.{verdict_status}
use Rattle.opa_top.specs.Running.{MOST, Manner, Outside, IsFirst, beginning, SaysAll, SaysOver, SaysFront, SaysWhole, Leaves, IsUnused}

-- what is written where the words are not those of a mode
abbrev pub usage : List ℕ
usage = codes "usage: opa MODE NAME [NAME]" ++ 10 ∷ []

-- what a run wrote whose words are not those of a mode, and its cause
abbrev pub SaysUsage : Outside → Outside → Status → Type 0
SaysUsage old new status.Done = ⊥
SaysUsage old new status.Refused = ⊥
SaysUsage old new status.Usage = Appends old.written new.written usage × IsUnused old new
SaysUsage old new status.ReadFault = ⊥
SaysUsage old new status.WriteFault = Rose old.writes new.writes × AppendsFront old.written new.written usage × IsUnused old new
SaysUsage old new status.NoMemory = AppendsFront old.written new.written usage × IsUnused old new
SaysUsage old new status.InputLimit = ⊥

module _ (way : Manner) (name : List ℕ) (old new : Outside) where
  -- the files open a rulebase, over which the transcript of the whole input was written
  abbrev pub WroteAll : Type 0
  WroteAll = IfSome old.files (λ files. IfSome old.left (λ bytes. (base : Rulebase) × Opens files name (Ok base) × SaysAll way base old new bytes))

  -- the files open a refusal, which was written
  abbrev pub WroteRefusal : Type 0
  WroteRefusal = IfSome old.files (λ files. (text : List ℕ) × Opens files name (Err text) × Appends old.written new.written text × IsUnused old new)

  -- nothing was written, or a front of a refusal, or a front of the transcript of the bytes that were read
  abbrev pub WroteFront : Type 0
  WroteFront =
      (read : List ℕ) × Consumes old.left new.left read
      × IfSome old.files (λ files. (Appends old.written new.written [] × IsUnused old new) ⊎ ((text : List ℕ) × Opens files name (Err text) × AppendsFront old.written new.written text × IsUnused old new) ⊎ ((base : Rulebase) × Opens files name (Ok base) × SaysFront way base old new read))

  -- What was written: with Done the transcript of the input, with Refused the printed refusal, and else a front of what would have been written.
  abbrev pub Wrote : Status → Type 0
  Wrote status.Done = WroteAll
  Wrote status.Refused = WroteRefusal
  Wrote status.Usage = ⊥
  Wrote status.ReadFault = WroteFront
  Wrote status.WriteFault = WroteFront
  Wrote status.NoMemory = WroteFront
  Wrote status.InputLimit = WroteFront

  -- Whatever transcript the bytes have over the rulebase was written, and the files, the listeners and the count of steps are
  -- those that it leaves.
  abbrev pub WroteWhatever : Rulebase → List ℕ → Type 0
  WroteWhatever base bytes =
      (first : ℕ) × IsFirst base old first
      × ((text : List ℕ) (held : Held) → IsTranscript way.rule (beginning base old first) (input_lines bytes) text held → Appends old.written new.written text × Leaves new held)

  -- Where contents are told, nothing else could have been written. With Done, whatever the files open is a rulebase, and whatever
  -- transcript the input has over it was written; with Refused, whatever they open is a refusal, which was written.
  abbrev pub IsOnly : Status → Type 0
  IsOnly status.Done =
      IfSome old.files (λ files. IfSome old.left (λ bytes. (opened : Result Rulebase (List ℕ)) → Opens files name opened → (base : Rulebase) × (opened ≡ Ok base) × WroteWhatever base bytes))
  IsOnly status.Refused = IfSome old.files (λ files. (opened : Result Rulebase (List ℕ)) → Opens files name opened → (text : List ℕ) × (opened ≡ Err text) × Appends old.written new.written text)
  IsOnly status.Usage = Unit {0}
  IsOnly status.ReadFault = Unit {0}
  IsOnly status.WriteFault = Unit {0}
  IsOnly status.NoMemory = Unit {0}
  IsOnly status.InputLimit = Unit {0}

  -- the whole transcript of the lines whose line feed is among some of the bytes that were read; a further line would be taken
  abbrev pub WroteLines : (List ℕ → List ℕ) → Type 0
  WroteLines part = IfSome old.files (λ files. (base : Rulebase) × Opens files name (Ok base) × ((read : List ℕ) × Consumes old.left new.left read × SaysWhole way base old new (part read)))

  -- Where the source failed or the input is too long, the whole transcript of the lines whose line feed was read was written, of a
  -- too long input of those among its first 67,108,864 bytes.
  abbrev pub LeftOff : Status → Type 0
  LeftOff status.Done = Unit {0}
  LeftOff status.Refused = Unit {0}
  LeftOff status.Usage = Unit {0}
  LeftOff status.ReadFault = (Rose old.takes new.takes → ⊥) → WroteLines (λ read. read)
  LeftOff status.WriteFault = Unit {0}
  LeftOff status.NoMemory = Unit {0}
  LeftOff status.InputLimit = WroteLines (take MOST)

  -- so many bytes were read, or at most so many
  abbrev pub ReadExactly : ℕ → Type 0
  ReadExactly n = (read : List ℕ) × Consumes old.left new.left read × (length read ≡ n)

  abbrev pub ReadAtMost : ℕ → Type 0
  ReadAtMost n = (read : List ℕ) × Consumes old.left new.left read × (length read ≤ n)

  abbrev pub OpensBase : Type 0
  OpensBase = IfSome old.files (λ files. (base : Rulebase) × Opens files name (Ok base))

  abbrev pub OpensRefusal : Type 0
  OpensRefusal = IfSome old.files (λ files. (text : List ℕ) × Opens files name (Err text))

  -- no line is taken any more after those that were read
  abbrev pub IsThrough : Type 0
  IsThrough = IfSome old.files (λ files. (base : Rulebase) × Opens files name (Ok base) × ((read : List ℕ) × Consumes old.left new.left read × SaysOver way base old new read))

  -- Each answer has its cause; a run ends for the length of its input exactly where the byte after the most was read.
  abbrev pub HasCause : Status → Type 0
  HasCause status.Done = OpensBase × (IsAtEnd new.left ⊎ IsThrough) × ReadAtMost MOST
  HasCause status.Refused = OpensRefusal × IsUnused old new
  HasCause status.Usage = ⊥
  HasCause status.ReadFault = (Rose old.takes new.takes ⊎ Rose old.reads new.reads) × ReadAtMost MOST
  HasCause status.WriteFault = (Rose old.writes new.writes ⊎ Rose old.keeps new.keeps) × ReadAtMost MOST
  HasCause status.NoMemory = ReadAtMost MOST
  HasCause status.InputLimit = OpensBase × ReadExactly (MOST + 1)

-- no count of faults rose
pub record Calm (old new : Outside) : Type 0 where
  pub take : Rose old.takes new.takes → ⊥
  pub keep : Rose old.keeps new.keeps → ⊥
  pub read : Rose old.reads new.reads → ⊥
  pub write : Rose old.writes new.writes → ⊥

-- Where nothing fails and the input is short enough, the answer is decided by what the files open, or memory ran out.
abbrev pub Completes : List ℕ → Outside → Outside → Status → Type 0
Completes name old new result =
    IfSome old.files (λ files. IfSome old.left (λ bytes. Calm old new → length bytes ≤ MOST → result ≢ status.NoMemory → (opened : Result Rulebase (List ℕ)) × Opens files name opened × (result ≡ verdict_status opened)))
