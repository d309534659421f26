-- What each status of a caseload says, from how it ran.
use Rattle.std.proofs.Common.{◌≡◌, ◌≢◌, ◌≤◌, ◌⊎◌, inl, inr, ℕ, List, [], length, take, Option, None, Some, IfSome, Result, Ok, Err, refl, sym, subst, arith}
use Rattle.std.specs.Io.KnownBytes.{Appends, Consumes, IsAtEnd}
use Rattle.std.proofs.lemmas.Option.{IfSome_then}
use Rattle.opa_io.specs.Outside.{Files, AppendsFront}
use Rattle.opa_io.specs.declared.fault.Status.{Status}
use Rattle.opa_io.specs.declared.fault.Status.TheVariants as status
use Rattle.opa_io.proofs.Outsides.{read_whole}
use Rattle.opa_talk.specs.WholeInput.Outside.{MOST, Outside, IsUnused, IsSilent, ReadAtMost, Calm}
use Rattle.opa_talk.specs.WholeInput.Telling.{IsTold}
use Rattle.opa_rulebase.specs.Loading.{Opens}
use Rattle.opa_talk.specs.Talk.{MayLeave}
use Rattle.opa_talk.proofs.StatusLaws.{calm_is_done, first_among, unread, whole_among}
use Rattle.opa_talk.proofs.TranscriptLaws.{cuts_anywhere}
use Rattle.opa_tree.specs.declared.rulebase.Rulebase.{Rulebase}
use Rattle.opa_cases.specs.Caseload.{caseload, Lacks, Stops, at_first}
use Rattle.opa_cases.specs.Serving.{IsOfSink, IsOpened, counts, SaysAll, SaysFront, SaysWhole, Talks, Ran}
use Rattle.opa_cases.specs.Statuses.{WroteRefusal, WroteFront, Wrote, WroteLines, LeftOff, OpensBase, OpensRefusal, HasCause, status_of}
use Rattle.opa_cases.specs.Promises.{Promises}
use Rattle.opa_cases.proofs.Alone.{alone}
use Rattle.opa_cases.proofs.Heard.{heard}
use Rattle.opa_cases.proofs.InOrder.{in_order}
use Rattle.opa_cases.proofs.Suppositions.{leave_nothing}

-- ---- what was written

module _ (name : List ℕ) (old new : Outside) where
  none_read : IsUnused old new → ReadAtMost old new MOST
  none_read u = ([], unread old.left new.left u.left, omega arith)

  abbrev Opened : Files → Type 0
  Opened files = (base : Rulebase) × Opens files name (Ok base)

  abbrev Refused : Files → Type 0
  Refused files = (text : List ℕ) × Opens files name (Err text)

  opens_base : (base : Rulebase) → IsOpened old.files name (Ok base) → OpensBase name old new
  opens_base base o = IfSome_then old.files {P = λ (files : Files). Opens files name (Ok base)} {Q = Opened} o (λ files h. (base, h))

  opens_refusal : (text : List ℕ) → IsOpened old.files name (Err text) → OpensRefusal name old new
  opens_refusal text o = IfSome_then old.files {P = λ (files : Files). Opens files name (Err text)} {Q = Refused} o (λ files h. (text, h))

  wrote_all : (base : Rulebase) (read : List ℕ) (o : Option Files) (l : Option (List ℕ)) → IfSome o (λ files. Opens files name (Ok base)) → Consumes l new.left read → IsAtEnd new.left → SaysAll base old new read
      → IfSome o (λ files. IfSome l (λ bytes. (b : Rulebase) × Opens files name (Ok b) × SaysAll b old new bytes))
  wrote_all base read None l opens took end says = tt
  wrote_all base read (Some files) None opens took end says = tt
  wrote_all base read (Some files) (Some bytes) opens took end says = (base, opens, subst (λ t. SaysAll base old new t) (read_whole bytes read new.left took end) says)

  abbrev Front : List ℕ → Files → Type 0
  Front read files =
      IsSilent old new ⊎ ((text : List ℕ) × Opens files name (Err text) × AppendsFront old.written new.written text × IsUnused old new) ⊎ ((base : Rulebase) × Opens files name (Ok base) × SaysFront base old new read)

  wrote_front : (base : Rulebase) (read : List ℕ) → IsOpened old.files name (Ok base) → Consumes old.left new.left read → SaysFront base old new read → WroteFront name old new
  wrote_front base read opens took says = (read, took, IfSome_then old.files {P = λ (files : Files). Opens files name (Ok base)} {Q = Front read} opens (λ files o. inr (inr (base, o, says))))

  wrote_refused : (text : List ℕ) → IsOpened old.files name (Err text) → IsUnused old new → AppendsFront old.written new.written text → WroteFront name old new
  wrote_refused text opens u wrote = ([], unread old.left new.left u.left, IfSome_then old.files {P = λ (files : Files). Opens files name (Err text)} {Q = Front []} opens (λ files o. inr (inl (text, o, wrote, u))))

  nothing_told : (o : Option Files) → IsSilent old new → IfSome o (Front [])
  nothing_told None none = tt
  nothing_told (Some files) none = inl none

  wrote_nothing : IsUnused old new → IsSilent old new → WroteFront name old new
  wrote_nothing u none = ([], unread old.left new.left u.left, nothing_told old.files none)

  lines_front : (base : Rulebase) (read : List ℕ) → SaysWhole base old new read → SaysFront base old new read
  lines_front base read w = record {
    held = w.says.held;
    halted = whole_among caseload (MayLeave old.keeps new.keeps Stops Lacks) (at_first base old.files) w.says.held w.says.text new.left old.written new.written w.whole read w.is_whole w.says.said w.says.wrote;
  }

  limit_front : (base : Rulebase) (read : List ℕ) → SaysWhole base old new (take MOST read) → SaysFront base old new read
  limit_front base read w = record {
    held = w.says.held;
    halted = first_among caseload (MayLeave old.keeps new.keeps Stops Lacks) (at_first base old.files) w.says.held w.says.text new.left old.written new.written MOST w.whole read w.is_whole w.says.said w.says.wrote;
  }

  talked : (s : Status) (base : Rulebase) → IsOpened old.files name (Ok base) → Talks base old new s → Wrote name old new s
  talked status.Done base o (read, took, few, h) = wrote_all base read old.files old.left o took h.0 h.1
  talked status.Refused base o t = absurd t
  talked status.Usage base o t = absurd t
  talked status.ReadFault base o (read, took, few, inl h) = wrote_front base read o took (lines_front base read h.1)
  talked status.ReadFault base o (read, took, few, inr h) = wrote_front base read o took h.1
  talked status.WriteFault base o (read, took, few, (why, says)) = wrote_front base read o took says
  talked status.NoMemory base o (read, took, few, says) = wrote_front base read o took says
  talked status.InputLimit base o (read, took, many, says) = wrote_front base read o took (limit_front base read says)

  refusal_written : (text : List ℕ) → IsOpened old.files name (Err text) → IsUnused old new → Appends old.written new.written text → WroteRefusal name old new
  refusal_written text o u wrote =
      IfSome_then old.files {P = λ (files : Files). Opens files name (Err text)} {Q = λ (files : Files). (t : List ℕ) × Opens files name (Err t) × Appends old.written new.written t × IsUnused old new} o (λ files h. (text, h, wrote, u))

  told_refusal : (s : Status) (text : List ℕ) → IsOpened old.files name (Err text) → IsUnused old new → IsTold status.Refused text old.written new.written old.writes new.writes s → Wrote name old new s
  told_refusal s text o u (inl h) = subst (Wrote name old new) (sym h.0) (refusal_written text o u h.1)
  told_refusal s text o u (inr h) = subst (Wrote name old new) (sym h.0) (wrote_refused text o u h.2)

  wrote : (s : Status) → Ran name old new s → Wrote name old new s
  wrote s (Ran.talks base m o f t w) = talked s base o t
  wrote s (Ran.refuses text o u told) = told_refusal s text o u told
  wrote status.ReadFault (Ran.cannot_take rose u none) = wrote_nothing u none
  wrote status.NoMemory (Ran.cannot_hold u none) = wrote_nothing u none

  -- ---- where it left off

  lines_written : (base : Rulebase) (read : List ℕ) (part : List ℕ → List ℕ) → IsOpened old.files name (Ok base) → Consumes old.left new.left read → SaysWhole base old new (part read) → WroteLines name old new part
  lines_written base read part o took says =
      IfSome_then old.files {P = λ (files : Files). Opens files name (Ok base)} {Q = λ (files : Files). (b : Rulebase) × Opens files name (Ok b) × ((r : List ℕ) × Consumes old.left new.left r × SaysWhole b old new (part r))} o (λ files h. (base, h, (read, took, says)))

  talk_left_off : (s : Status) (base : Rulebase) → IsOpened old.files name (Ok base) → Talks base old new s → LeftOff name old new s
  talk_left_off status.Done base o t = tt
  talk_left_off status.Refused base o t = tt
  talk_left_off status.Usage base o t = tt
  talk_left_off status.ReadFault base o (read, took, few, inl h) = λ calm. lines_written base read (λ r. r) o took h.1
  talk_left_off status.ReadFault base o (read, took, few, inr h) = λ calm. absurd (calm h.0)
  talk_left_off status.WriteFault base o t = tt
  talk_left_off status.NoMemory base o t = tt
  talk_left_off status.InputLimit base o (read, took, many, says) = lines_written base read (take MOST) o took says

  refusal_left_off : (s : Status) (text : List ℕ) → IsTold status.Refused text old.written new.written old.writes new.writes s → LeftOff name old new s
  refusal_left_off s text (inl h) = subst (LeftOff name old new) (sym h.0) tt
  refusal_left_off s text (inr h) = subst (LeftOff name old new) (sym h.0) tt

  left_off : (s : Status) → Ran name old new s → LeftOff name old new s
  left_off s (Ran.talks base m o f t w) = talk_left_off s base o t
  left_off s (Ran.refuses text o u told) = refusal_left_off s text told
  left_off status.ReadFault (Ran.cannot_take rose u none) = λ calm. absurd (calm rose)
  left_off status.NoMemory (Ran.cannot_hold u none) = tt

  -- ---- causes

  talk_cause : (s : Status) (base : Rulebase) → IsOpened old.files name (Ok base) → Talks base old new s → IsOfSink old new s → HasCause name old new s
  talk_cause status.Done base o (read, took, few, h) w = (opens_base base o, h.0, (read, took, few))
  talk_cause status.Refused base o t w = absurd t
  talk_cause status.Usage base o t w = absurd t
  talk_cause status.ReadFault base o (read, took, few, inl h) w = (inr h.0, (read, took, few))
  talk_cause status.ReadFault base o (read, took, few, inr h) w = (inl h.0, (read, took, few))
  talk_cause status.WriteFault base o (read, took, few, (why, says)) w = (w refl, (read, took, few))
  talk_cause status.NoMemory base o (read, took, few, says) w = (read, took, few)
  talk_cause status.InputLimit base o (read, took, many, says) w = (opens_base base o, (read, took, many))

  refusal_cause : (s : Status) (text : List ℕ) → IsOpened old.files name (Err text) → IsUnused old new → IsTold status.Refused text old.written new.written old.writes new.writes s → HasCause name old new s
  refusal_cause s text o u (inl h) = subst (HasCause name old new) (sym h.0) (opens_refusal text o, u)
  refusal_cause s text o u (inr h) = subst (HasCause name old new) (sym h.0) (h.1, none_read u)

  cause : (s : Status) → Ran name old new s → HasCause name old new s
  cause s (Ran.talks base m o f t w) = talk_cause s base o t w
  cause s (Ran.refuses text o u told) = refusal_cause s text o u told
  cause status.ReadFault (Ran.cannot_take rose u none) = (inl rose, none_read u)
  cause status.NoMemory (Ran.cannot_hold u none) = none_read u

  files_stay : (s : Status) → Ran name old new s → new.files ≡ old.files
  files_stay s (Ran.talks base m o f t w) = f
  files_stay s (Ran.refuses text o u told) = u.files
  files_stay status.ReadFault (Ran.cannot_take rose u none) = u.files
  files_stay status.NoMemory (Ran.cannot_hold u none) = u.files

-- ---- where nothing fails

module _ (name : List ℕ) (files : Files) (bytes : List ℕ) (old new : Outside) (calm : Calm old new) (short : length bytes ≤ MOST) where
  abbrev Decided : Status → Type 0
  Decided s = (opened : Result Rulebase (List ℕ)) × Opens files name opened × (s ≡ status_of opened)

  talk_decided : (s : Status) (base : Rulebase) → old.left ≡ Some bytes → Opens files name (Ok base) → Talks base old new s → s ≢ status.NoMemory → Decided s
  talk_decided s base l o t some =
      let done = calm_is_done MOST old.left new.left (counts old) (counts new) (λ read. IsAtEnd new.left × SaysAll base old new read) (SaysWhole base old new) (SaysFront base old new) bytes l short calm.take calm.keep calm.read calm.write s t some in
      (Ok base, o, done)

  refusal_decided : (s : Status) (text : List ℕ) → Opens files name (Err text) → IsTold status.Refused text old.written new.written old.writes new.writes s → Decided s
  refusal_decided s text o (inl h) = (Err text, o, h.0)
  refusal_decided s text o (inr h) = absurd (calm.write h.1)

  opened : (P : Result Rulebase (List ℕ)) → old.files ≡ Some files → IsOpened old.files name P → Opens files name P
  opened r f o = let Q : Option Files → Type 0 = λ t. IsOpened t name r in subst Q f o

  decided : (s : Status) → old.files ≡ Some files → old.left ≡ Some bytes → Ran name old new s → s ≢ status.NoMemory → Decided s
  decided s f l (Ran.talks base m o k t w) some = talk_decided s base l (opened (Ok base) f o) t some
  decided s f l (Ran.refuses text o u told) some = refusal_decided s text (opened (Err text) f o) told
  decided status.ReadFault f l (Ran.cannot_take rose u none) some = absurd (calm.take rose)
  decided status.NoMemory f l (Ran.cannot_hold u none) some = absurd (some refl)

module _ (name : List ℕ) (old new : Outside) (s : Status) (r : Ran name old new s) where
  completed : (f : Option Files) (l : Option (List ℕ)) → old.files ≡ f → old.left ≡ l
      → IfSome f (λ files. IfSome l (λ bytes. Calm old new → length bytes ≤ MOST → s ≢ status.NoMemory → (opened : Result Rulebase (List ℕ)) × Opens files name opened × (s ≡ status_of opened)))
  completed None l ef el = tt
  completed (Some files) None ef el = tt
  completed (Some files) (Some bytes) ef el = λ calm short some. decided name files bytes old new calm short s ef el r some

  pub promised : Promises name old new s
  promised = record {
    ran = r;
    wrote = wrote name old new s r;
    left_off = left_off name old new s r;
    cause = cause name old new s r;
    complete = completed old.files old.left refl refl;
    files = files_stay name old new s r;
    in_order = in_order;
    each_alone = alone;
    each_heard = heard;
    suppositions = leave_nothing;
    parts = cuts_anywhere caseload;
  }
