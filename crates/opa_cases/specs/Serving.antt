-- A caseload over what the name opens: what it reads, writes, keeps and answers.
use Rattle.std.specs.Prelude.{ℕ, ◌≡◌, List, Option, IfSome, Result, Ok, Err}
use Rattle.std.specs.Io.KnownBytes.{Appends, IsAtEnd}
use Rattle.opa_io.specs.Outside.{Files, Rose}
use Rattle.opa_io.specs.declared.fault.Status.{Status}
use Rattle.opa_io.specs.declared.fault.Status.TheVariants as status
use Rattle.opa_model.specs.Models.{IsModel}
use Rattle.opa_talk.specs.WholeInput.Outside.{MOST, Outside, IsUnused, IsSilent}
use Rattle.opa_talk.specs.WholeInput.Telling.{IsTold}
use Rattle.opa_rulebase.specs.Loading.{Opens}
use Rattle.opa_talk.specs.declared.halt.Halt.{Halt}
use Rattle.opa_talk.specs.declared.halt.Halt.TheVariants as halt
use Rattle.opa_talk.specs.Ended.{Counts, Ends}
use Rattle.opa_talk.specs.Lines.{input_lines, IsWhole}
use Rattle.opa_talk.specs.Transcript.{IsTranscript}
use Rattle.opa_talk.specs.Talk.{HaltedAmong, Converses, Halts, MayLeave}
use Rattle.opa_tree.specs.declared.rulebase.Rulebase.{Rulebase}
use Rattle.opa_cases.specs.Caseload.{Held, caseload, Lacks, Stops, at_first}

-- this is what the files open under the name, where they are told
abbrev pub IsOpened : Option Files → List ℕ → Result Rulebase (List ℕ) → Type 0
IsOpened told name opened = IfSome told (λ files. Opens files name opened)

-- the counts of its faults
abbrev pub counts : Outside → Counts
counts x = record { takes = x.takes; keeps = x.keeps; reads = x.reads; writes = x.writes }

module _ (base : Rulebase) (old new : Outside) where
  -- what may be held where the reply to a line halts
  abbrev pub Left : Held → List ℕ → Held → Type 0
  Left = MayLeave old.keeps new.keeps Stops Lacks

  -- the replies to the bytes' lines were written
  pub record SaysAll (bytes : List ℕ) : Type 0 where
    pub text : List ℕ
    pub held : Held
    pub said : IsTranscript caseload (at_first base old.files) (input_lines bytes) text held
    pub wrote : Appends old.written new.written text

  -- some of the bytes' lines were carried out, whole ones alone, and a front of the replies to them was written
  pub record SaysFront (bytes : List ℕ) : Type 0 where
    pub held : Held
    pub halted : HaltedAmong caseload Left (at_first base old.files) held bytes new.left old.written new.written

  -- the lines whose line feed is among the bytes were carried out
  pub record SaysWhole (bytes : List ℕ) : Type 0 where
    pub whole : List ℕ
    pub is_whole : IsWhole whole bytes
    pub says : SaysAll whole

  -- What is known of a caseload that ended so.
  abbrev pub Talks : Status → Type 0
  Talks = Ends MOST old.left new.left (counts old) (counts new) (λ read. IsAtEnd new.left × SaysAll read) SaysWhole SaysFront

-- nothing could be written, since the sink failed
abbrev pub IsOfSink : Outside → Outside → Status → Type 0
IsOfSink old new result = result ≡ status.WriteFault → Rose old.writes new.writes

-- A caseload over what the name opens: the rulebase is accepted, and the lines of the input are carried out; or it is refused,
-- which is printed; or nothing was loaded, for a fault of the shelf or for want of memory.
pub data Ran (name : List ℕ) (old new : Outside) : Status → Type 0 where
  talks : {result : Status} (base : Rulebase) → IsModel base.model → IsOpened old.files name (Ok base) → new.files ≡ old.files → Talks base old new result → IsOfSink old new result → Ran name old new result
  refuses : {result : Status} (text : List ℕ) → IsOpened old.files name (Err text) → IsUnused old new → IsTold status.Refused text old.written new.written old.writes new.writes result → Ran name old new result
  cannot_take : Rose old.takes new.takes → IsUnused old new → IsSilent old new → Ran name old new status.ReadFault
  cannot_hold : IsUnused old new → IsSilent old new → Ran name old new status.NoMemory

-- ---- on the way there

-- the input was read to its end, and the replies to its lines were written
abbrev pub TalksAll : Rulebase → Outside → Outside → Type 0
TalksAll base old new = (y : Held) × Converses caseload (at_first base old.files) y MOST old.left new.left old.written new.written × (new.files ≡ y.files)

-- some of the input was read, and the talk halts there
abbrev pub TalksPart : Rulebase → Outside → Outside → Halt → Type 0
TalksPart base old new halt = (y : Held) × Halts caseload (MayLeave old.keeps new.keeps Stops Lacks) (at_first base old.files) y MOST old.left new.left old.written new.written halt × (new.files ≡ y.files)

-- how a talk ended in which no file is kept
abbrev pub unkept : Result (Unit {0}) Halt → Result (Unit {0}) Halt
unkept (Ok u) = Ok u
unkept (Err halt.Input) = Err halt.Input
unkept (Err halt.Output) = Err halt.Output
unkept (Err halt.Take) = Err halt.Take
unkept (Err halt.Keep) = Err halt.Memory
unkept (Err halt.Memory) = Err halt.Memory
unkept (Err halt.Limit) = Err halt.Limit
