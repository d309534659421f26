-- Nothing else could have been written: files open one thing, and lines have one transcript.
use Rattle.std.proofs.Common.{◌≡◌, inl, inr, ℕ, List, Option, None, Some, IfSome, Result, Ok, Err, refl, sym, subst}
use Rattle.std.specs.Io.KnownBytes.{Appends, Consumes}
use Rattle.opa_io.specs.Outside.{Files}
use Rattle.opa_io.specs.declared.fault.Status.{Status}
use Rattle.opa_io.specs.declared.fault.Status.TheVariants as status
use Rattle.opa_io.proofs.Outsides.{read_whole}
use Rattle.opa_model.specs.Models.{IsModel}
use Rattle.opa_talk.specs.Lines.{input_lines}
use Rattle.opa_tree.specs.declared.rulebase.Rulebase.{Rulebase}
use Rattle.opa_reply.specs.Held.{Held}
use Rattle.opa_rulebase.specs.Loading.{Opens}
use Rattle.opa_laws.specs.Decided.Laws.{OneTranscript}
use Rattle.opa_laws.specs.Decided.Opening.{OneOpening}
use Rattle.opa_top.specs.Checking.{Checks, HasAnswered, IsOnlyCheck, IsOpened, IsTold, verdict, verdict_status}
use Rattle.opa_top.specs.Running.{Manner, Outside, beginning, Leaves, SaysAll, Talks, Runs}
use Rattle.opa_top.specs.Statuses.{WroteWhatever, IsOnly}
use Rattle.opa_top.proofs.StatusLaws.{all_over}

-- what one thing held leaves, another that is the same does
left_so : (new : Outside) (x y : Held) → x ≡ y → Leaves new x → Leaves new y
left_so new x y e h = subst (Leaves new) e h

module _ (way : Manner) (one_opening : OneOpening) (one_transcript : OneTranscript way.rule) (name : List ℕ) (old new : Outside) where
  whatever : (base : Rulebase) → IsModel base.model → (files : Files) → old.files ≡ Some files → (bytes : List ℕ) → SaysAll way base old new bytes → WroteWhatever way name old new base bytes
  whatever base m files told bytes says = (
    says.first,
    says.few,
    λ text held said.
        let one = one_transcript (beginning base old says.first) held says.held (input_lines bytes) text says.text m (files, told) said says.said in
        (subst (Appends old.written new.written) (sym one.0) says.wrote, left_so new says.held held (sym one.1) says.leaves),
  )

  only_all : (base : Rulebase) → IsModel base.model → (read : List ℕ) (o : Option Files) → old.files ≡ o → (l : Option (List ℕ)) → IfSome o (λ files. Opens files name (Ok base)) → Consumes l new.left read
      → ((bytes : List ℕ) → Consumes (Some bytes) new.left read → SaysAll way base old new bytes)
      → IfSome o (λ files. IfSome l (λ bytes. (opened : Result Rulebase (List ℕ)) → Opens files name opened → (b : Rulebase) × (opened ≡ Ok b) × WroteWhatever way name old new b bytes))
  only_all base m read None told l opens took says = tt
  only_all base m read (Some files) told None opens took says = tt
  only_all base m read (Some files) told (Some bytes) opens took says =
      λ opened o. (base, one_opening files name opened (Ok base) o opens, whatever base m files told bytes (says bytes took))

  only_refusal : (text : List ℕ) (o : Option Files) → IfSome o (λ files. Opens files name (Err text)) → Appends old.written new.written text
      → IfSome o (λ files. (opened : Result Rulebase (List ℕ)) → Opens files name opened → (t : List ℕ) × (opened ≡ Err t) × Appends old.written new.written t)
  only_refusal text None opens wrote = tt
  only_refusal text (Some files) opens wrote = λ opened o. (text, one_opening files name opened (Err text) o opens, wrote)

  talk_only : (s : Status) (base : Rulebase) → IsModel base.model → IsOpened old.files name (Ok base) → Talks way base old new s → IsOnly way name old new s
  talk_only status.Done base m o (read, took, few, inl h) =
      only_all base m read old.files refl old.left o took (λ bytes all. subst (λ t. SaysAll way base old new t) (read_whole bytes read new.left all h.0) h.1)
  talk_only status.Done base m o (read, took, few, inr h) = only_all base m read old.files refl old.left o took (λ bytes all. all_over way name old new base bytes read new.left all h)
  talk_only status.Refused base m o t = absurd t
  talk_only status.Usage base m o t = tt
  talk_only status.ReadFault base m o t = tt
  talk_only status.WriteFault base m o t = tt
  talk_only status.NoMemory base m o t = tt
  talk_only status.InputLimit base m o t = tt

  refusal_only : (s : Status) (text : List ℕ) → IsOpened old.files name (Err text) → IsTold status.Refused text old.written new.written old.writes new.writes s → IsOnly way name old new s
  refusal_only s text o (inl h) = subst (IsOnly way name old new) (sym h.0) (only_refusal text old.files o h.1)
  refusal_only s text o (inr h) = subst (IsOnly way name old new) (sym h.0) tt

  pub run_only : (s : Status) → Runs way name old new s → IsOnly way name old new s
  run_only s (Runs.talks base m o t) = talk_only s base m o t
  run_only s (Runs.refuses text o u told) = refusal_only s text o told
  run_only status.ReadFault (Runs.cannot_take rose u none) = tt
  run_only status.NoMemory (Runs.cannot_hold u none) = tt

-- ---- a check

-- a status that is no answer
unanswered : {T : Type 0} (s : Status) → HasAnswered s → s ≡ status.WriteFault → T
unanswered s (inl e) f = absurd (cc (e, f))
unanswered s (inr e) f = absurd (cc (e, f))

pub told_whole : (good s : Status) (text : List ℕ) (w w' : Option (List ℕ)) (b n : ℕ) → HasAnswered s → IsTold good text w w' b n s → (s ≡ good) × Appends w w' text
told_whole good s text w w' b n ended (inl told) = told
told_whole good s text w w' b n ended (inr told) = unanswered s ended told.0

module _ (one_opening : OneOpening) (name : List ℕ) (w w' : Option (List ℕ)) (s : Status) where
  only_opened : (opened : Result Rulebase (List ℕ)) → (s ≡ verdict_status opened) × Appends w w' (verdict opened) → (o : Option Files) → IfSome o (λ files. Opens files name opened)
      → IfSome o (λ files. (other : Result Rulebase (List ℕ)) → Opens files name other → (s ≡ verdict_status other) × Appends w w' (verdict other))
  only_opened opened wrote None o = tt
  only_opened opened wrote (Some files) o = λ other also. subst (λ x. (s ≡ verdict_status x) × Appends w w' (verdict x)) (one_opening files name opened other o also) wrote

pub check_only : OneOpening → (told : Option Files) (name : List ℕ) (w w' : Option (List ℕ)) (takes takes' writes writes' : ℕ) (s : Status) → Checks told name w w' takes takes' writes writes' s → IsOnlyCheck told name w w' s
check_only one_opening told name w w' takes takes' writes writes' s (Checks.tells opened o said) = λ ended.
    only_opened one_opening name w w' s opened (told_whole (verdict_status opened) s (verdict opened) w w' writes writes' ended said) told o
check_only one_opening told name w w' takes takes' writes writes' status.ReadFault (Checks.cannot_take rose none) = λ ended. not_read ended
  where
    not_read : {T : Type 0} → HasAnswered status.ReadFault → T
    not_read (inl e) = absurd (cc e)
    not_read (inr e) = absurd (cc e)
check_only one_opening told name w w' takes takes' writes writes' status.NoMemory (Checks.cannot_hold none) = λ ended. not_held ended
  where
    not_held : {T : Type 0} → HasAnswered status.NoMemory → T
    not_held (inl e) = absurd (cc e)
    not_held (inr e) = absurd (cc e)
