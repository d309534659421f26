-- What each status of a run says, from how the run ended.
use Rattle.std.proofs.Common.{◌≡◌, ◌≢◌, ◌≤◌, ◌⊎◌, inl, inr, ℕ, List, [], length, take, Option, None, Some, IfSome, Result, Ok, Err, refl, sym, subst, arith}
use Rattle.std.specs.Io.KnownBytes.{Appends, Consumes, IsAtEnd}
use Rattle.std.proofs.lemmas.Option.{IfSome_then}
use Rattle.opa_io.specs.Outside.{Files, AppendsFront}
use Rattle.opa_io.specs.declared.fault.Status.{Status}
use Rattle.opa_io.specs.declared.fault.Status.TheVariants as status
use Rattle.opa_io.proofs.Outsides.{read_whole}
use Rattle.opa_rulebase.specs.Loading.{Opens}
use Rattle.opa_talk.specs.Talk.{MayLeave}
use Rattle.opa_talk.proofs.StatusLaws.{calm_is_done, first_among, unread, whole_among}
use Rattle.opa_tree.specs.declared.rulebase.Rulebase.{Rulebase}
use Rattle.opa_top.specs.Checking.{IsOpened, IsTold, verdict_status}
use Rattle.opa_top.specs.Running.{MOST, Manner, beginning, counts, Outside, SaysAll, SaysOver, SaysFront, SaysWhole, Talks, IsUnused, Runs}
use Rattle.opa_top.specs.Statuses.{WroteRefusal, WroteFront, Wrote, WroteLines, LeftOff, OpensBase, OpensRefusal, IsThrough, HasCause, Calm, Completes, ReadAtMost}

-- ---- what was written

module _ (way : Manner) (name : List ℕ) (old new : Outside) where
  none_read : IsUnused old new → ReadAtMost way name old new MOST
  none_read u = ([], unread old.left new.left u.left, omega arith)

  abbrev Opened : Files → Type 0
  Opened files = (base : Rulebase) × Opens files name (Ok base)

  abbrev Refused : Files → Type 0
  Refused files = (text : List ℕ) × Opens files name (Err text)

  opens_base : (base : Rulebase) → IsOpened old.files name (Ok base) → OpensBase way name old new
  opens_base base o = IfSome_then old.files {P = λ (files : Files). Opens files name (Ok base)} {Q = Opened} o (λ files h. (base, h))

  opens_refusal : (text : List ℕ) → IsOpened old.files name (Err text) → OpensRefusal way name old new
  opens_refusal text o = IfSome_then old.files {P = λ (files : Files). Opens files name (Err text)} {Q = Refused} o (λ files h. (text, h))

  wrote_all : (base : Rulebase) (read : List ℕ) (o : Option Files) (l : Option (List ℕ)) → IfSome o (λ files. Opens files name (Ok base)) → Consumes l new.left read → IsAtEnd new.left → SaysAll way base old new read
      → IfSome o (λ files. IfSome l (λ bytes. (b : Rulebase) × Opens files name (Ok b) × SaysAll way b old new bytes))
  wrote_all base read None l opens took end says = tt
  wrote_all base read (Some files) None opens took end says = tt
  wrote_all base read (Some files) (Some bytes) opens took end says = (base, opens, subst (λ t. SaysAll way base old new t) (read_whole bytes read new.left took end) says)

  -- bytes that begin with those after which no line is taken
  pub all_over : (base : Rulebase) (bytes read : List ℕ) (l' : Option (List ℕ)) → Consumes (Some bytes) l' read → SaysOver way base old new read → SaysAll way base old new bytes
  all_over base bytes read None took says = absurd took
  all_over base bytes read (Some rest) took says =
      subst (λ t. SaysAll way base old new t) (sym took) (record { first = says.first; few = says.few; text = says.text; held = says.held; said = says.said rest; wrote = says.wrote; leaves = says.leaves })

  wrote_over : (base : Rulebase) (read : List ℕ) (o : Option Files) (l : Option (List ℕ)) → IfSome o (λ files. Opens files name (Ok base)) → Consumes l new.left read → SaysOver way base old new read
      → IfSome o (λ files. IfSome l (λ bytes. (b : Rulebase) × Opens files name (Ok b) × SaysAll way b old new bytes))
  wrote_over base read None l opens took says = tt
  wrote_over base read (Some files) None opens took says = tt
  wrote_over base read (Some files) (Some bytes) opens took says = (base, opens, all_over base bytes read new.left took says)

  through : (base : Rulebase) (read : List ℕ) → IsOpened old.files name (Ok base) → Consumes old.left new.left read → SaysOver way base old new read → IsThrough way name old new
  through base read o took says =
      IfSome_then old.files {P = λ (files : Files). Opens files name (Ok base)} {Q = λ (files : Files). (b : Rulebase) × Opens files name (Ok b) × ((r : List ℕ) × Consumes old.left new.left r × SaysOver way b old new r)} o (λ files h. (base, h, (read, took, says)))

  abbrev Front : List ℕ → Files → Type 0
  Front read files =
      (Appends old.written new.written [] × IsUnused old new) ⊎ ((text : List ℕ) × Opens files name (Err text) × AppendsFront old.written new.written text × IsUnused old new) ⊎ ((base : Rulebase) × Opens files name (Ok base) × SaysFront way base old new read)

  wrote_front : (base : Rulebase) (read : List ℕ) → IsOpened old.files name (Ok base) → Consumes old.left new.left read → SaysFront way base old new read → WroteFront way name old new
  wrote_front base read opens took says = (read, took, IfSome_then old.files {P = λ (files : Files). Opens files name (Ok base)} {Q = Front read} opens (λ files o. inr (inr (base, o, says))))

  wrote_refused : (text : List ℕ) → IsOpened old.files name (Err text) → IsUnused old new → AppendsFront old.written new.written text → WroteFront way name old new
  wrote_refused text opens u wrote = ([], unread old.left new.left u.left, IfSome_then old.files {P = λ (files : Files). Opens files name (Err text)} {Q = Front []} opens (λ files o. inr (inl (text, o, wrote, u))))

  nothing_told : (o : Option Files) → IsUnused old new → Appends old.written new.written [] → IfSome o (Front [])
  nothing_told None u none = tt
  nothing_told (Some files) u none = inl (none, u)

  wrote_nothing : IsUnused old new → Appends old.written new.written [] → WroteFront way name old new
  wrote_nothing u none = ([], unread old.left new.left u.left, nothing_told old.files u none)

  lines_front : (base : Rulebase) (read : List ℕ) → SaysWhole way base old new read → SaysFront way base old new read
  lines_front base read w = record {
    first = w.says.first;
    few = w.says.few;
    held = w.says.held;
    halted = whole_among way.rule (MayLeave old.keeps new.keeps way.stops way.lacks) (beginning base old w.says.first) w.says.held w.says.text new.left old.written new.written w.whole read w.is_whole w.says.said w.says.wrote;
    leaves = w.says.leaves;
  }

  limit_front : (base : Rulebase) (read : List ℕ) → SaysWhole way base old new (take MOST read) → SaysFront way base old new read
  limit_front base read w = record {
    first = w.says.first;
    few = w.says.few;
    held = w.says.held;
    halted = first_among way.rule (MayLeave old.keeps new.keeps way.stops way.lacks) (beginning base old w.says.first) w.says.held w.says.text new.left old.written new.written MOST w.whole read w.is_whole w.says.said w.says.wrote;
    leaves = w.says.leaves;
  }

  talked : (s : Status) (base : Rulebase) → IsOpened old.files name (Ok base) → Talks way base old new s → Wrote way name old new s
  talked status.Done base o (read, took, few, inl h) = wrote_all base read old.files old.left o took h.0 h.1
  talked status.Done base o (read, took, few, inr h) = wrote_over base read old.files old.left o took h
  talked status.Refused base o t = absurd t
  talked status.Usage base o t = absurd t
  talked status.ReadFault base o (read, took, few, inl h) = wrote_front base read o took (lines_front base read h.1)
  talked status.ReadFault base o (read, took, few, inr h) = wrote_front base read o took h.1
  talked status.WriteFault base o (read, took, few, (why, says)) = wrote_front base read o took says
  talked status.NoMemory base o (read, took, few, says) = wrote_front base read o took says
  talked status.InputLimit base o (read, took, many, says) = wrote_front base read o took (limit_front base read says)

  refusal_written : (text : List ℕ) → IsOpened old.files name (Err text) → IsUnused old new → Appends old.written new.written text → WroteRefusal way name old new
  refusal_written text o u wrote =
      IfSome_then old.files {P = λ (files : Files). Opens files name (Err text)} {Q = λ (files : Files). (t : List ℕ) × Opens files name (Err t) × Appends old.written new.written t × IsUnused old new} o (λ files h. (text, h, wrote, u))

  told_refusal : (s : Status) (text : List ℕ) → IsOpened old.files name (Err text) → IsUnused old new → IsTold status.Refused text old.written new.written old.writes new.writes s → Wrote way name old new s
  told_refusal s text o u (inl h) = subst (Wrote way name old new) (sym h.0) (refusal_written text o u h.1)
  told_refusal s text o u (inr h) = subst (Wrote way name old new) (sym h.0) (wrote_refused text o u h.2)

  pub run_wrote : (s : Status) → Runs way name old new s → Wrote way name old new s
  run_wrote s (Runs.talks base m o t) = talked s base o t
  run_wrote s (Runs.refuses text o u told) = told_refusal s text o u told
  run_wrote status.ReadFault (Runs.cannot_take rose u none) = wrote_nothing u none
  run_wrote status.NoMemory (Runs.cannot_hold u none) = wrote_nothing u none

  -- ---- where it left off

  lines_written : (base : Rulebase) (read : List ℕ) (part : List ℕ → List ℕ) → IsOpened old.files name (Ok base) → Consumes old.left new.left read → SaysWhole way base old new (part read) → WroteLines way name old new part
  lines_written base read part o took says =
      IfSome_then old.files {P = λ (files : Files). Opens files name (Ok base)} {Q = λ (files : Files). (b : Rulebase) × Opens files name (Ok b) × ((r : List ℕ) × Consumes old.left new.left r × SaysWhole way b old new (part r))} o (λ files h. (base, h, (read, took, says)))

  talk_left_off : (s : Status) (base : Rulebase) → IsOpened old.files name (Ok base) → Talks way base old new s → LeftOff way name old new s
  talk_left_off status.Done base o t = tt
  talk_left_off status.Refused base o t = tt
  talk_left_off status.Usage base o t = tt
  talk_left_off status.ReadFault base o (read, took, few, inl h) = λ calm. lines_written base read (λ r. r) o took h.1
  talk_left_off status.ReadFault base o (read, took, few, inr h) = λ calm. absurd (calm h.0)
  talk_left_off status.WriteFault base o t = tt
  talk_left_off status.NoMemory base o t = tt
  talk_left_off status.InputLimit base o (read, took, many, says) = lines_written base read (take MOST) o took says

  refusal_left_off : (s : Status) (text : List ℕ) → IsTold status.Refused text old.written new.written old.writes new.writes s → LeftOff way name old new s
  refusal_left_off s text (inl h) = subst (LeftOff way name old new) (sym h.0) tt
  refusal_left_off s text (inr h) = subst (LeftOff way name old new) (sym h.0) tt

  pub run_left_off : (s : Status) → Runs way name old new s → LeftOff way name old new s
  run_left_off s (Runs.talks base m o t) = talk_left_off s base o t
  run_left_off s (Runs.refuses text o u told) = refusal_left_off s text told
  run_left_off status.ReadFault (Runs.cannot_take rose u none) = λ calm. absurd (calm rose)
  run_left_off status.NoMemory (Runs.cannot_hold u none) = tt

  -- ---- causes

  talk_cause : (s : Status) (base : Rulebase) → IsOpened old.files name (Ok base) → Talks way base old new s → HasCause way name old new s
  talk_cause status.Done base o (read, took, few, inl h) = (opens_base base o, inl h.0, (read, took, few))
  talk_cause status.Done base o (read, took, few, inr h) = (opens_base base o, inr (through base read o took h), (read, took, few))
  talk_cause status.Refused base o t = absurd t
  talk_cause status.Usage base o t = absurd t
  talk_cause status.ReadFault base o (read, took, few, inl h) = (inr h.0, (read, took, few))
  talk_cause status.ReadFault base o (read, took, few, inr h) = (inl h.0, (read, took, few))
  talk_cause status.WriteFault base o (read, took, few, (why, says)) = (why, (read, took, few))
  talk_cause status.NoMemory base o (read, took, few, says) = (read, took, few)
  talk_cause status.InputLimit base o (read, took, many, says) = (opens_base base o, (read, took, many))

  refusal_cause : (s : Status) (text : List ℕ) → IsOpened old.files name (Err text) → IsUnused old new → IsTold status.Refused text old.written new.written old.writes new.writes s → HasCause way name old new s
  refusal_cause s text o u (inl h) = subst (HasCause way name old new) (sym h.0) (opens_refusal text o, u)
  refusal_cause s text o u (inr h) = subst (HasCause way name old new) (sym h.0) (inl h.1, none_read u)

  pub run_cause : (s : Status) → Runs way name old new s → HasCause way name old new s
  run_cause s (Runs.talks base m o t) = talk_cause s base o t
  run_cause s (Runs.refuses text o u told) = refusal_cause s text o u told
  run_cause status.ReadFault (Runs.cannot_take rose u none) = (inl rose, none_read u)
  run_cause status.NoMemory (Runs.cannot_hold u none) = none_read u

-- ---- where nothing fails

module _ (way : Manner) (name : List ℕ) (files : Files) (bytes : List ℕ) (old new : Outside) (calm : Calm old new) (short : length bytes ≤ MOST) where
  abbrev Decided : Status → Type 0
  Decided s = (opened : Result Rulebase (List ℕ)) × Opens files name opened × (s ≡ verdict_status opened)

  talk_decided : (s : Status) (base : Rulebase) → old.left ≡ Some bytes → Opens files name (Ok base) → Talks way base old new s → s ≢ status.NoMemory → Decided s
  talk_decided s base l o t some =
      let done = calm_is_done MOST old.left new.left (counts old) (counts new) (λ read. (IsAtEnd new.left × SaysAll way base old new read) ⊎ SaysOver way base old new read) (SaysWhole way base old new) (SaysFront way base old new) bytes l short calm.take calm.keep calm.read calm.write s t some in
      (Ok base, o, done)

  refusal_decided : (s : Status) (text : List ℕ) → Opens files name (Err text) → IsTold status.Refused text old.written new.written old.writes new.writes s → Decided s
  refusal_decided s text o (inl h) = (Err text, o, h.0)
  refusal_decided s text o (inr h) = absurd (calm.write h.1)

  opened : (P : Result Rulebase (List ℕ)) → old.files ≡ Some files → IsOpened old.files name P → Opens files name P
  opened r f o = let Q : Option Files → Type 0 = λ t. IsOpened t name r in subst Q f o

  decided : (s : Status) → old.files ≡ Some files → old.left ≡ Some bytes → Runs way name old new s → s ≢ status.NoMemory → Decided s
  decided s f l (Runs.talks base m o t) some = talk_decided s base l (opened (Ok base) f o) t some
  decided s f l (Runs.refuses text o u told) some = refusal_decided s text (opened (Err text) f o) told
  decided status.ReadFault f l (Runs.cannot_take rose u none) some = absurd (calm.take rose)
  decided status.NoMemory f l (Runs.cannot_hold u none) some = absurd (some refl)

module _ (way : Manner) (name : List ℕ) (old new : Outside) (s : Status) (r : Runs way name old new s) where
  completed : (f : Option Files) (l : Option (List ℕ)) → old.files ≡ f → old.left ≡ l
      → IfSome f (λ files. IfSome l (λ bytes. Calm old new → length bytes ≤ MOST → s ≢ status.NoMemory → (opened : Result Rulebase (List ℕ)) × Opens files name opened × (s ≡ verdict_status opened)))
  completed None l ef el = tt
  completed (Some files) None ef el = tt
  completed (Some files) (Some bytes) ef el = λ calm short some. decided way name files bytes old new calm short s ef el r some

  pub run_complete : Completes name old new s
  run_complete = completed old.files old.left refl refl
