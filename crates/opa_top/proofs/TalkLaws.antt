-- How a run ends, from what its parts ensure.
use Rattle.std.proofs.Common.{◌≡◌, ◌≤◌, ◌+◌, ◌⊎◌, inl, inr, ℕ, true, false, List, Result, Ok, Err, OnOk, IfErr, refl, sym, subst, arith, ◌∙◌}
use Rattle.std.specs.Io.KnownBytes.{IsAtEnd}
use Rattle.opa_io.specs.declared.fault.Status.{Status}
use Rattle.opa_io.specs.declared.fault.Status.TheVariants as status
use Rattle.opa_session.specs.Infer.Sessions.{first_slots}
use Rattle.opa_talk.specs.declared.halt.Halt.{Halt}
use Rattle.opa_talk.specs.declared.halt.Halt.TheVariants as halt
use Rattle.opa_talk.specs.Halt.{IsCause, end_of}
use Rattle.opa_talk.specs.Talk.{Converses, Halts, HaltedAmong, Paused, MayLeave}
use Rattle.opa_talk.proofs.EndLaws.{halts_memory}
use Rattle.opa_talk.proofs.StatusLaws.{halts_end}
use Rattle.opa_tree.specs.declared.rulebase.Rulebase.{Rulebase}
use Rattle.opa_reply.specs.Held.{Held}
use Rattle.opa_top.specs.Checking.{IsTold}
use Rattle.opa_top.specs.Running.{MOST, Manner, Outside, IsFirst, beginning, counts, Leaves, SaysAll, SaysFront, SaysOver, SaysWhole, Talks, TalksAll, TalksPart, Runs, a_run}

module _ (way : Manner) (base : Rulebase) (old new : Outside) (first : ℕ) (few : IsFirst base old first) (s s' : Held) (is : s ≡ beginning base old first) (leaves : Leaves new s') where
  pub talks_all : {E : Type 0} (r : Result (Unit {0}) E) → OnOk r (Converses way.rule s s' MOST old.left new.left old.written new.written) → OnOk r (TalksAll way base old new)
  talks_all (Ok u) h = let P : Held → Type 0 = λ x. Converses way.rule x s' MOST old.left new.left old.written new.written in (first, few, s', subst P is h, leaves)
  talks_all (Err e) h = tt

  pub talks_part : {T : Type 0} (r : Result T Halt) → IfErr r (Halts way.rule (MayLeave old.keeps new.keeps way.stops way.lacks) s s' MOST old.left new.left old.written new.written)
      → IfErr r (TalksPart way base old new)
  talks_part (Ok u) h = tt
  talks_part (Err e) h =
      let P : Held → Type 0 = λ x. Halts way.rule (MayLeave old.keeps new.keeps way.stops way.lacks) x s' MOST old.left new.left old.written new.written e in (first, few, s', subst P is h, leaves)

-- another count of steps
abbrev pub with_steps : Outside → ℕ → Outside
with_steps old steps = record {
  files = old.files;
  left = old.left;
  written = old.written;
  hearers = old.hearers;
  takes = old.takes;
  keeps = old.keeps;
  reads = old.reads;
  writes = old.writes;
  steps = steps;
}

-- memory ran out before the first line
pub talks_not : (way : Manner) (base : Rulebase) (old : Outside) (steps : ℕ) → steps ≤ old.steps + first_slots base → TalksPart way base old (with_steps old steps) halt.Memory
talks_not way base old steps few = (
  steps,
  few,
  beginning base old steps,
  halts_memory way.rule (MayLeave old.keeps old.keeps way.stops way.lacks) (beginning base old steps) MOST old.left old.written,
  record { files = refl; hearers = refl; steps = omega arith },
)

module _ (way : Manner) (base : Rulebase) (old new : Outside) (mid : ℕ) (less : old.takes ≤ mid) where
  module _ (first : ℕ) (some : IsFirst base old first) where
    whole : (y : Held) (read : List ℕ) → Paused way.rule (beginning base old first) y read old.written new.written → Leaves new y → SaysWhole way base old new read
    whole y read p leaves = record { whole = p.whole; is_whole = p.is_whole; says = record { first = first; few = some; text = p.text; held = y; said = p.said; wrote = p.wrote; leaves = leaves }; going = p.going }

    front : (y : Held) (read : List ℕ) → HaltedAmong way.rule (MayLeave old.keeps new.keeps way.stops way.lacks) (beginning base old first) y read new.left old.written new.written → Leaves new y → SaysFront way base old new read
    front y read h leaves = record { first = first; few = some; held = y; halted = h; leaves = leaves }

  pub fed : (r : Result (Unit {0}) Halt) → OnOk r (TalksAll way base old new) → IfErr r (TalksPart way base old new)
      → IfErr r (IsCause mid new.takes old.keeps new.keeps old.writes new.writes old.reads new.reads) → Talks way base old new (end_of r)
  fed (Ok u) (n, some, y, c, leaves) part cause = elim c.ended [
    | inl end ↦ (c.read, c.took, c.within, inl (end, record { first = n; few = some; text = c.text; held = y; said = c.said; wrote = c.wrote; leaves = leaves }))
    | inr over ↦ (c.read, c.took, c.within, inr (record { first = n; few = some; text = c.text; held = y; over = over.0; said = over.1; wrote = c.wrote; leaves = leaves }))
  ]
  fed (Err e) all (n, some, y, h, leaves) cause =
      halts_end MOST old.left new.left (counts old) (counts new) (λ read. (IsAtEnd new.left × SaysAll way base old new read) ⊎ SaysOver way base old new read) (SaysWhole way base old new) (SaysFront way base old new)
      way.rule (MayLeave old.keeps new.keeps way.stops way.lacks) (beginning base old n) y old.written new.written mid less (λ read p. whole n some y read p leaves) (λ read p. front n some y read p leaves) e h cause

-- ---- a run takes each line

never_over : {T : Type 0} (base : Rulebase) (old new : Outside) (read : List ℕ) → SaysOver a_run base old new read → T
never_over base old new read h = let no : false ≡ true = h.over in absurd (cc no)

done_reads : (base : Rulebase) (old new : Outside) → Talks a_run base old new status.Done → IsAtEnd new.left
done_reads base old new (read, took, few, inl h) = h.0
done_reads base old new (read, took, few, inr h) = never_over base old new read h

refused_not_done : {T : Type 0} (text : List ℕ) (old new : Outside) (s : Status) → IsTold status.Refused text old.written new.written old.writes new.writes s → s ≡ status.Done → T
refused_not_done text old new s (inl h) e = let no : status.Done ≡ status.Refused = sym e ∙ h.0 in absurd (cc no)
refused_not_done text old new s (inr h) e = let no : status.Done ≡ status.WriteFault = sym e ∙ h.0 in absurd (cc no)

pub run_reads_all : (name : List ℕ) (old new : Outside) (s : Status) → Runs a_run name old new s → s ≡ status.Done → IsAtEnd new.left
run_reads_all name old new s (Runs.talks base m o t) e = done_reads base old new (subst (λ x. Talks a_run base old new x) e t)
run_reads_all name old new s (Runs.refuses text o u told) e = refused_not_done text old new s told e
run_reads_all name old new status.ReadFault (Runs.cannot_take rose u none) e = absurd (cc e)
run_reads_all name old new status.NoMemory (Runs.cannot_hold u none) e = absurd (cc e)
