-- Nothing else could have been written, from how a batch or a caseload ran.
use Rattle.std.proofs.Common.{◌≡◌, inl, inr, ℕ, List, Option, None, Some, IfSome, Result, Ok, Err, refl, sym, subst, ◌∙◌}
use Rattle.std.specs.Prelude.{String}
use Rattle.std.specs.declared.alloc.Global.{Global}
use Rattle.std.specs.Io.KnownBytes.{Appends, Consumes}
use Rattle.opa_io.specs.Outside.{Files}
use Rattle.opa_io.specs.declared.fault.Status.{Status}
use Rattle.opa_io.specs.declared.fault.Status.TheVariants as status
use Rattle.opa_io.proofs.Outsides.{read_whole}
use Rattle.opa_model.specs.Models.{IsModel}
use Rattle.opa_talk.specs.WholeInput.Outside.{Outside}
use Rattle.opa_talk.specs.WholeInput.Telling.{IsTold}
use Rattle.opa_rulebase.specs.Loading.{Opens}
use Rattle.opa_script.specs.Laws.{OneCommand, RefusedOrRead}
use Rattle.opa_talk.specs.Lines.{input_lines}
use Rattle.opa_talk.specs.Transcript.{IsTranscript}
use Rattle.opa_tree.specs.declared.rulebase.Rulebase.{Rulebase}
use Rattle.opa_laws.specs.Decided.Laws.{OneCommandFault}
use Rattle.opa_laws.specs.Decided.Opening.{OneOpening}
use Rattle.opa_batch.specs.Batches.{Gives}
use Rattle.opa_batch.specs.Serving as batch
use Rattle.opa_cases.specs.Caseload.{Held, caseload, at_first}
use Rattle.opa_cases.specs.Serving as cases
use Rattle.opa_desk.specs.Only.{BatchOver, CasesOver, Ended, HasAnswered, OnlyBatch, OnlyCases}
use Rattle.opa_desk.specs.Promises.{Only, Promises}
use Rattle.opa_desk.proofs.OneCaseload.{one_transcript_of}
use Rattle.opa_desk.proofs.OneTable.{one_gives}

-- ---- statuses that are no answer

not_read : {T : Type 0} → HasAnswered status.ReadFault → T
not_read (inl e) = absurd (cc e)
not_read (inr e) = absurd (cc e)

not_written : {T : Type 0} → HasAnswered status.WriteFault → T
not_written (inl e) = absurd (cc e)
not_written (inr e) = absurd (cc e)

not_held : {T : Type 0} → HasAnswered status.NoMemory → T
not_held (inl e) = absurd (cc e)
not_held (inr e) = absurd (cc e)

not_short : {T : Type 0} → HasAnswered status.InputLimit → T
not_short (inl e) = absurd (cc e)
not_short (inr e) = absurd (cc e)

module _ (old new : Outside) (s : Status) where
  told_whole : (good : Status) (text : List ℕ) → HasAnswered s → IsTold good text old.written new.written old.writes new.writes s → Ended old new s good text
  told_whole good text answered (inl told) = told
  told_whole good text answered (inr told) = not_written (subst HasAnswered told.0 answered)

  module _ (one_opening : OneOpening) (name : List ℕ) where
    whatever : (Over : Result Rulebase (List ℕ) → Type 0) (opened : Result Rulebase (List ℕ)) → Over opened → (o : Option Files) → IfSome o (λ files. Opens files name opened)
        → IfSome o (λ files. (other : Result Rulebase (List ℕ)) → Opens files name other → Over other)
    whatever Over opened over None o = tt
    whatever Over opened over (Some files) o = λ other also. subst Over (one_opening files name opened other o also) over

  -- ---- a batch

  module _ (one_command : OneCommand) (one_fault : OneCommandFault) (apart : RefusedOrRead) (base : Rulebase) (is : IsModel base.model) where
    works_over : (w : batch.Works base old new s) → HasAnswered s → (l : Option (List ℕ)) → Consumes l new.left w.read
        → IfSome l (λ bytes. (good : Status) (text : List ℕ) → Gives base bytes good text → Ended old new s good text)
    works_over w answered None took = tt
    works_over w answered (Some bytes) took = λ good text gives.
        let read = read_whole bytes w.read new.left took w.ended in
        let one = one_gives base is one_command one_fault apart bytes good w.good text w.text gives (subst (λ b. Gives base b w.good w.text) read w.gives) in
        let told = told_whole w.good w.text answered w.told in
        (told.0 ∙ sym one.0, subst (Appends old.written new.written) (sym one.1) told.1)

decided_over : (old new : Outside) → OneCommand → OneCommandFault → RefusedOrRead → (base : Rulebase) → IsModel base.model → (s : Status) → batch.Decides base old new s → HasAnswered s → BatchOver old new s (Ok base)
decided_over old new one_command one_fault apart base is s (batch.Decides.works w) answered = works_over old new s one_command one_fault apart base is w answered old.left w.took
decided_over old new one_command one_fault apart base is status.ReadFault (batch.Decides.cannot_read rose most none) answered = not_read answered
decided_over old new one_command one_fault apart base is status.InputLimit (batch.Decides.too_long read none) answered = not_short answered
decided_over old new one_command one_fault apart base is status.NoMemory (batch.Decides.runs_out most none) answered = not_held answered

module _ (one_opening : OneOpening) (one_command : OneCommand) (one_fault : OneCommandFault) (apart : RefusedOrRead) (name : List ℕ) (old new : Outside) where
  batch_only : (s : Status) → batch.Serves name old new s → OnlyBatch name old new s
  batch_only s (batch.Serves.decides base is opens files decided) = λ answered.
      whatever old new s one_opening name (BatchOver old new s) (Ok base) (decided_over old new one_command one_fault apart base is s decided answered) old.files opens
  batch_only s (batch.Serves.refuses text opens unused told) = λ answered.
      whatever old new s one_opening name (BatchOver old new s) (Err text) (told_whole old new s status.Refused text answered told) old.files opens
  batch_only status.ReadFault (batch.Serves.cannot_take rose unused none) = λ answered. not_read answered
  batch_only status.NoMemory (batch.Serves.cannot_hold unused none) = λ answered. not_held answered

  -- ---- a caseload

  module _ (base : Rulebase) (is : IsModel base.model) where
    says_over : (read : List ℕ) → cases.SaysAll base old new read → (l : Option (List ℕ)) → ((bytes : List ℕ) → Consumes (Some bytes) new.left read → read ≡ bytes) → Consumes l new.left read
        → IfSome l (λ bytes. (text : List ℕ) (held : Held) → IsTranscript caseload (at_first base old.files) (input_lines bytes) text held → Ended old new status.Done status.Done text)
    says_over read says None whole took = tt
    says_over read says (Some bytes) whole took = λ text held said.
        let mine = subst (λ b. IsTranscript caseload (at_first base old.files) (input_lines b) says.text says.held) (whole bytes took) says.said in
        let one = one_transcript_of one_command one_fault apart (at_first base old.files) held says.held (input_lines bytes) text says.text is said mine in
        (refl, subst (Appends old.written new.written) (sym one.0) says.wrote)

    talks_over : (s : Status) → cases.Talks base old new s → HasAnswered s → CasesOver old new s (Ok base)
    talks_over status.Done (read, took, few, (end, says)) answered = says_over read says old.left (λ bytes all. read_whole bytes read new.left all end) took
    talks_over status.Refused t answered = absurd t
    talks_over status.Usage t answered = absurd t
    talks_over status.ReadFault t answered = not_read answered
    talks_over status.WriteFault t answered = not_written answered
    talks_over status.NoMemory t answered = not_held answered
    talks_over status.InputLimit t answered = not_short answered

  cases_only : (s : Status) → cases.Ran name old new s → OnlyCases name old new s
  cases_only s (cases.Ran.talks base is opens files talks sink) = λ answered. whatever old new s one_opening name (CasesOver old new s) (Ok base) (talks_over base is s talks answered) old.files opens
  cases_only s (cases.Ran.refuses text opens unused told) = λ answered.
      whatever old new s one_opening name (CasesOver old new s) (Err text) (told_whole old new s status.Refused text answered told) old.files opens
  cases_only status.ReadFault (cases.Ran.cannot_take rose unused none) = λ answered. not_read answered
  cases_only status.NoMemory (cases.Ran.cannot_hold unused none) = λ answered. not_held answered

pub only_of : OneOpening → OneCommand → OneCommandFault → RefusedOrRead → (words : List (String Global)) (old new : Outside) (s : Status) → Promises words old new s → Only words old new s
only_of one_opening one_command one_fault apart words old new s promised = record {
  batch = λ name asks. let ran = promised.batch name asks in batch_only one_opening one_command one_fault apart name old new s ran.serves;
  cases = λ name asks. let ran = promised.cases name asks in cases_only one_opening one_command one_fault apart name old new s ran.ran;
}
