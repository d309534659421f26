-- A run, or an interview: an input over a rulebase. What it reads, writes, keeps, tells and answers.
use Rattle.std.specs.Prelude.{ℕ, ◌≡◌, ◌⊎◌, ◌≤◌, ◌+◌, List, [], ◌++◌, Option, Ok, Err}
use Rattle.std.specs.Io.KnownBytes.{Appends, IsAtEnd}
use Rattle.opa_io.specs.Outside.{Files, Rose}
use Rattle.opa_io.specs.declared.fault.Status.{Status}
use Rattle.opa_io.specs.declared.fault.Status.TheVariants as status
use Rattle.opa_listen.specs.Hearing.{Hearer}
use Rattle.opa_talk.specs.declared.halt.Halt.{Halt}
use Rattle.opa_talk.specs.Ended.{Counts, Ends}
use Rattle.opa_talk.specs.Lines.{input_lines, IsWhole}
use Rattle.opa_talk.specs.Transcript.{Rule, IsGoing, IsOver, IsTranscript}
use Rattle.opa_talk.specs.Talk.{HaltedAmong, Converses, Halts, MayLeave}
use Rattle.opa_session.specs.Infer.Sessions.{first_slots}
use Rattle.opa_model.specs.Models.{IsModel}
use Rattle.opa_tree.specs.declared.rulebase.Rulebase.{Rulebase}
use Rattle.opa_reply.specs.Held.{Held, at_first}
use Rattle.opa_reply.specs.Interviews.{interview, LacksAsked, StopsAsked}
use Rattle.opa_reply.specs.Replies.{conversation, Lacks, Stops}
use Rattle.opa_top.specs.Checking.{IsOpened, IsTold}
use Rattle.opa_io.specs.declared.limits.TheConstants.{MOST_INPUT}

-- how many bytes an input may have
abbrev pub MOST : ℕ
MOST = MOST_INPUT

-- What is told of the outside: the files of the shelf, the bytes that are left of the input, those that were written, what
-- listeners watch and keep, the counts of faults of taking and keeping files, of reading and of writing, and the count of steps.
pub record Outside : Type 0 where
  pub files : Option Files
  pub left : Option (List ℕ)
  pub written : Option (List ℕ)
  pub hearers : List Hearer
  pub takes : ℕ
  pub keeps : ℕ
  pub reads : ℕ
  pub writes : ℕ
  pub steps : ℕ

abbrev pub outside : {F S K : Type 0} → (F → Option Files) → (F → ℕ) → (F → ℕ) → (S → Option (List ℕ)) → (S → ℕ) → (K → Option (List ℕ)) → (K → ℕ) → F → List Hearer → S → K → ℕ → Outside
outside files takes keeps left reads written writes shelf hearers input out steps = record {
  files = files shelf;
  left = left input;
  written = written out;
  hearers = hearers;
  takes = takes shelf;
  keeps = keeps shelf;
  reads = reads input;
  writes = writes out;
  steps = steps;
}

-- the counts of its faults
abbrev pub counts : Outside → Counts
counts x = record { takes = x.takes; keeps = x.keeps; reads = x.reads; writes = x.writes }

-- How lines are answered: the rule, and what may be held where keeping a file failed, and where memory ran out.
pub record Manner : Type 1 where
  pub rule : Rule Held
  pub stops : Held → List ℕ → Held → Type 0
  pub lacks : Held → List ℕ → Held → Type 0

-- each line is a command; or each replies to a question that stands before it, or is a command behind a slash
abbrev pub a_run : Manner
a_run = record { rule = conversation; stops = Stops; lacks = Lacks }

abbrev pub an_interview : Manner
an_interview = record { rule = interview; stops = StopsAsked; lacks = LacksAsked }

-- The files, and what listeners keep, are those that are held, and no more steps were counted than lines are held to be derived.
pub record Leaves (new : Outside) (held : Held) : Type 0 where
  pub files : new.files ≡ held.files
  pub hearers : new.hearers ≡ held.hearers
  pub steps : new.steps ≤ held.derived

-- what is held before the first line, where so many steps were counted by then
abbrev pub beginning : Rulebase → Outside → ℕ → Held
beginning base old first = at_first base old.hearers old.files first

-- of the slots that there are where nothing is known, each line was derived once at most
abbrev pub IsFirst : Rulebase → Outside → ℕ → Type 0
IsFirst base old first = first ≤ old.steps + first_slots base

module _ (way : Manner) (base : Rulebase) (old new : Outside) where
  -- The transcript of the bytes' lines was written, and the files and the listeners are those that the lines leave.
  pub record SaysAll (bytes : List ℕ) : Type 0 where
    pub first : ℕ
    pub few : IsFirst base old first
    pub text : List ℕ
    pub held : Held
    pub said : IsTranscript way.rule (beginning base old first) (input_lines bytes) text held
    pub wrote : Appends old.written new.written text
    pub leaves : Leaves new held

  -- After these bytes no line is taken any more: their transcript, which is that of all bytes that begin with them, was written.
  pub record SaysOver (bytes : List ℕ) : Type 0 where
    pub first : ℕ
    pub few : IsFirst base old first
    pub text : List ℕ
    pub held : Held
    pub over : IsOver way.rule held
    pub said : (more : List ℕ) → IsTranscript way.rule (beginning base old first) (input_lines (bytes ++ more)) text held
    pub wrote : Appends old.written new.written text
    pub leaves : Leaves new held

  -- Some of the bytes' lines were carried out, whole ones alone, a front of their transcript was written, and the files and the
  -- listeners are those that these lines leave; but where keeping a file failed, for the name under which the next line couldn't keep its text.
  pub record SaysFront (bytes : List ℕ) : Type 0 where
    pub first : ℕ
    pub few : IsFirst base old first
    pub held : Held
    pub halted : HaltedAmong way.rule (MayLeave old.keeps new.keeps way.stops way.lacks) (beginning base old first) held bytes new.left old.written new.written
    pub leaves : Leaves new held

  -- The lines whose line feed is among the bytes were carried out, and a further line would be taken.
  pub record SaysWhole (bytes : List ℕ) : Type 0 where
    pub whole : List ℕ
    pub is_whole : IsWhole whole bytes
    pub says : SaysAll whole
    pub going : IsGoing way.rule says.held

  -- What is known of a talk that ended so.
  abbrev pub Talks : Status → Type 0
  Talks = Ends MOST old.left new.left (counts old) (counts new) (λ read. (IsAtEnd new.left × SaysAll read) ⊎ SaysOver read) SaysWhole SaysFront

-- nothing was read, nothing was kept, nobody was told, and no line was derived
pub record IsUnused (old new : Outside) : Type 0 where
  pub left : new.left ≡ old.left
  pub files : new.files ≡ old.files
  pub hearers : new.hearers ≡ old.hearers
  pub steps : new.steps ≡ old.steps

-- A run over what the name opens: the rulebase is accepted, and the lines of the input are carried out; or it is refused, which is
-- printed; or nothing was loaded, for a fault of the shelf or for want of memory.
pub data Runs (way : Manner) (name : List ℕ) (old new : Outside) : Status → Type 0 where
  talks : {result : Status} (base : Rulebase) → IsModel base.model → IsOpened old.files name (Ok base) → Talks way base old new result → Runs way name old new result
  refuses : {result : Status} (text : List ℕ) → IsOpened old.files name (Err text) → IsUnused old new → IsTold status.Refused text old.written new.written old.writes new.writes result → Runs way name old new result
  cannot_take : Rose old.takes new.takes → IsUnused old new → Appends old.written new.written [] → Runs way name old new status.ReadFault
  cannot_hold : IsUnused old new → Appends old.written new.written [] → Runs way name old new status.NoMemory

-- ---- on the way there

-- the input was read to where the talk ends, and its transcript was written
abbrev pub TalksAll : Manner → Rulebase → Outside → Outside → Type 0
TalksAll way base old new = (first : ℕ) × IsFirst base old first × (y : Held) × Converses way.rule (beginning base old first) y MOST old.left new.left old.written new.written × Leaves new y

-- some of the input was read, and the talk halts there
abbrev pub TalksPart : Manner → Rulebase → Outside → Outside → Halt → Type 0
TalksPart way base old new halt = (first : ℕ) × IsFirst base old first × (y : Held) × Halts way.rule (MayLeave old.keeps new.keeps way.stops way.lacks) (beginning base old first) y MOST old.left new.left old.written new.written halt × Leaves new y
