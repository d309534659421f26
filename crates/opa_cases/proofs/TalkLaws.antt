-- How a caseload ends, from what its parts ensure.
use Rattle.std.proofs.Common.{◌≡◌, ◌≤◌, inl, inr, ℕ, true, false, List, [], ◌∷◌, Result, Ok, Err, OnOk, IfErr, refl, subst, ap, ◌∙◌}
use Rattle.std.specs.Prelude.{Option, ◌≢◌}
use Rattle.opa_talk.specs.WholeInput.Outside.{MOST, Outside}
use Rattle.std.specs.Io.KnownBytes.{IsAtEnd}
use Rattle.opa_talk.specs.declared.halt.Halt.{Halt}
use Rattle.opa_talk.specs.declared.halt.Halt.TheVariants as halt
use Rattle.opa_talk.specs.Halt.{IsCause, end_of}
use Rattle.opa_talk.specs.Talk.{Converses, Halts, HaltsAt, HaltedAmong, LeftAt, Paused, MayLeave}
use Rattle.opa_talk.specs.Transcript.{Prints, IsTranscript}
use Rattle.opa_talk.proofs.EndLaws.{halts_memory}
use Rattle.opa_talk.proofs.StatusLaws.{halts_end}
use Rattle.opa_tree.specs.declared.rulebase.Rulebase.{Rulebase}
use Rattle.opa_cases.specs.Caseload.{Held, caseload, Lacks, Stops, RepliesLine, RepliesNamed, at_first}
use Rattle.opa_io.specs.Outside.{Rose}
use Rattle.opa_io.specs.declared.fault.Status.{Status}
use Rattle.opa_io.specs.declared.fault.Status.TheVariants as status
use Rattle.opa_cases.specs.Serving.{counts, IsOfSink, SaysAll, SaysFront, SaysWhole, Talks, TalksAll, TalksPart, unkept}

module _ (base : Rulebase) (old new : Outside) (s s' : Held) (is : s ≡ at_first base old.files) (files : new.files ≡ s'.files) where
  pub talks_all : {E : Type 0} (r : Result (Unit {0}) E) → OnOk r (Converses caseload s s' MOST old.left new.left old.written new.written) → OnOk r (TalksAll base old new)
  talks_all (Ok u) h = let P : Held → Type 0 = λ x. Converses caseload x s' MOST old.left new.left old.written new.written in (s', subst P is h, files)
  talks_all (Err e) h = tt

  pub talks_part : {T : Type 0} (r : Result T Halt) → IfErr r (Halts caseload (MayLeave old.keeps new.keeps Stops Lacks) s s' MOST old.left new.left old.written new.written) → IfErr r (TalksPart base old new)
  talks_part (Ok u) h = tt
  talks_part (Err e) h = let P : Held → Type 0 = λ x. Halts caseload (MayLeave old.keeps new.keeps Stops Lacks) x s' MOST old.left new.left old.written new.written e in (s', subst P is h, files)

-- memory ran out before the first line
pub talks_not : (base : Rulebase) (old : Outside) → TalksPart base old old halt.Memory
talks_not base old = (at_first base old.files, halts_memory caseload (MayLeave old.keeps old.keeps Stops Lacks) (at_first base old.files) MOST old.left old.written, refl)

-- ---- no file is kept

module _ (base : Rulebase) (old new : Outside) where
  pub unkept_all : (r : Result (Unit {0}) Halt) → OnOk r (TalksAll base old new) → OnOk (unkept r) (TalksAll base old new)
  unkept_all (Ok u) h = h
  unkept_all (Err halt.Input) h = tt
  unkept_all (Err halt.Output) h = tt
  unkept_all (Err halt.Take) h = tt
  unkept_all (Err halt.Keep) h = tt
  unkept_all (Err halt.Memory) h = tt
  unkept_all (Err halt.Limit) h = tt

  pub unkept_part : (r : Result (Unit {0}) Halt) → IfErr r (TalksPart base old new) → IfErr (unkept r) (TalksPart base old new)
  unkept_part (Ok u) h = tt
  unkept_part (Err halt.Input) h = h
  unkept_part (Err halt.Output) h = h
  unkept_part (Err halt.Take) h = h
  unkept_part (Err halt.Keep) h = h
  unkept_part (Err halt.Memory) h = h
  unkept_part (Err halt.Limit) h = h

pub unkept_cause : (take take' keep keep' output output' input input' : ℕ) (r : Result (Unit {0}) Halt) → IfErr r (IsCause take take' keep keep' output output' input input')
    → IfErr (unkept r) (IsCause take take' keep keep' output output' input input')
unkept_cause take take' keep keep' output output' input input' (Ok u) h = tt
unkept_cause take take' keep keep' output output' input input' (Err halt.Input) h = h
unkept_cause take take' keep keep' output output' input input' (Err halt.Output) h = h
unkept_cause take take' keep keep' output output' input input' (Err halt.Take) h = h
unkept_cause take take' keep keep' output output' input input' (Err halt.Keep) h = tt
unkept_cause take take' keep keep' output output' input input' (Err halt.Memory) h = h
unkept_cause take take' keep keep' output output' input input' (Err halt.Limit) h = h

pub not_kept : (r : Result (Unit {0}) Halt) → unkept r ≢ Err halt.Keep
not_kept (Ok u) e = cc e
not_kept (Err halt.Input) e = cc e
not_kept (Err halt.Output) e = cc e
not_kept (Err halt.Take) e = cc e
not_kept (Err halt.Keep) e = cc e
not_kept (Err halt.Memory) e = cc e
not_kept (Err halt.Limit) e = cc e

-- where nothing could be written, the sink failed
pub of_sink : (old new : Outside) (mid : ℕ) (r : Result (Unit {0}) Halt) → r ≢ Err halt.Keep → IfErr r (IsCause mid new.takes old.keeps new.keeps old.writes new.writes old.reads new.reads) → IsOfSink old new (end_of r)
of_sink old new mid (Ok u) kept cause e = absurd (cc e)
of_sink old new mid (Err halt.Input) kept cause e = absurd (cc e)
of_sink old new mid (Err halt.Output) kept cause e = cause
of_sink old new mid (Err halt.Take) kept cause e = absurd (cc e)
of_sink old new mid (Err halt.Keep) kept cause e = absurd (kept refl)
of_sink old new mid (Err halt.Memory) kept cause e = absurd (cc e)
of_sink old new mid (Err halt.Limit) kept cause e = absurd (cc e)

-- ---- the files stay

named_files : (x y : Held) (name rest text : List ℕ) → RepliesNamed x name rest text y → y.files ≡ x.files
named_files x y name rest text (inl h) = ap (λ (z : Held). z.files) h.2
named_files x y name rest text (inr h) = ap (λ (z : Held). z.files) h.after

line_files : (x y : Held) (read text : List ℕ) → RepliesLine x read text y → y.files ≡ x.files
line_files x y read text (inl h) = ap (λ (z : Held). z.files) h.1.1
line_files x y read text (inr h) = named_files x y h.0 h.1 text h.3

prints_files : (x y : Held) (reads : List (List ℕ)) (text : List ℕ) → Prints caseload x reads text y → y.files ≡ x.files
prints_files x y [] text h = ap (λ (z : Held). z.files) h.1
prints_files x y (read ∷ more) text (inl over) = absurd (let no : false ≡ true = over.0 in cc no)
prints_files x y (read ∷ more) text (inr (going, (said, next, rest, replies, printed, e))) = prints_files next y more rest printed ∙ line_files x next read said replies

transcript_files : (x y : Held) (reads : List (List ℕ)) (text : List ℕ) → IsTranscript caseload x reads text y → y.files ≡ x.files
transcript_files x y reads text h = prints_files x y reads h.0 h.1

module _ (keep keep' : ℕ) where
  left_files : (x y : Held) (more : List (List ℕ)) → LeftAt (MayLeave keep keep' Stops Lacks) x more y → y.files ≡ x.files
  left_files x y more (inl e) = ap (λ (z : Held). z.files) e
  left_files x y more (inr (line, rest, e, inl stops)) = absurd stops.1
  left_files x y more (inr (line, rest, e, inr lacks)) = lacks

  among_files : (x y : Held) (read : List ℕ) (left before now : Option (List ℕ)) → HaltedAmong caseload (MayLeave keep keep' Stops Lacks) x y read left before now → y.files ≡ x.files
  among_files x y read left before now (taken, is, h) = left_files h.held y h.more h.left ∙ transcript_files x h.held h.done h.text h.said

  halts_files : (x y : Held) (read : List ℕ) (left before now : Option (List ℕ)) (e : Halt) → HaltsAt caseload (MayLeave keep keep' Stops Lacks) x y MOST read left before now e → y.files ≡ x.files
  halts_files x y read left before now halt.Input (few, p) = transcript_files x y _ p.text p.said
  halts_files x y read left before now halt.Output (few, h) = among_files x y read left before now h
  halts_files x y read left before now halt.Take (few, h) = among_files x y read left before now h
  halts_files x y read left before now halt.Keep (few, h) = among_files x y read left before now h
  halts_files x y read left before now halt.Memory (few, h) = among_files x y read left before now h
  halts_files x y read left before now halt.Limit (many, p) = transcript_files x y _ p.text p.said

pub fed_files : (base : Rulebase) (old new : Outside) (r : Result (Unit {0}) Halt) → OnOk r (TalksAll base old new) → IfErr r (TalksPart base old new) → new.files ≡ old.files
fed_files base old new (Ok u) (y, c, files) part = files ∙ transcript_files (at_first base old.files) y _ c.text c.said
fed_files base old new (Err e) all (y, (read, took, h), files) = files ∙ halts_files old.keeps new.keeps (at_first base old.files) y read new.left old.written new.written e h

-- ---- the end

module _ (base : Rulebase) (old new : Outside) (mid : ℕ) (less : old.takes ≤ mid) where
  whole : (y : Held) (read : List ℕ) → Paused caseload (at_first base old.files) y read old.written new.written → SaysWhole base old new read
  whole y read p = record { whole = p.whole; is_whole = p.is_whole; says = record { text = p.text; held = y; said = p.said; wrote = p.wrote } }

  front : (y : Held) (read : List ℕ) → HaltedAmong caseload (MayLeave old.keeps new.keeps Stops Lacks) (at_first base old.files) y read new.left old.written new.written → SaysFront base old new read
  front y read h = record { held = y; halted = h }

  pub fed : (r : Result (Unit {0}) Halt) → OnOk r (TalksAll base old new) → IfErr r (TalksPart base old new)
      → IfErr r (IsCause mid new.takes old.keeps new.keeps old.writes new.writes old.reads new.reads) → Talks base old new (end_of r)
  fed (Ok u) (y, c, files) part cause = elim c.ended [
    | inl end ↦ (c.read, c.took, c.within, (end, record { text = c.text; held = y; said = c.said; wrote = c.wrote }))
    | inr over ↦ absurd (let no : false ≡ true = over.0 in cc no)
  ]
  fed (Err e) all (y, h, files) cause =
      halts_end MOST old.left new.left (counts old) (counts new) (λ read. IsAtEnd new.left × SaysAll base old new read) (SaysWhole base old new) (SaysFront base old new)
      caseload (MayLeave old.keeps new.keeps Stops Lacks) (at_first base old.files) y old.written new.written mid less (whole y) (front y) e h cause
