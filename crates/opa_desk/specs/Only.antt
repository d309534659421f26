-- Nothing else could have been written: files open one thing, an input gives one table over it, and lines have one transcript.
use Rattle.std.specs.Prelude.{◌≡◌, ◌⊎◌, ℕ, List, IfSome, Result, Ok, Err}
use Rattle.std.specs.Io.KnownBytes.{Appends}
use Rattle.opa_io.specs.declared.fault.Status.{Status}
use Rattle.opa_io.specs.declared.fault.Status.TheVariants as status
use Rattle.opa_batch.specs.Batches.{Gives}
use Rattle.opa_cases.specs.Caseload.{Held, caseload, at_first}
use Rattle.opa_talk.specs.WholeInput.Outside.{Outside}
use Rattle.opa_rulebase.specs.Loading.{Opens}
use Rattle.opa_talk.specs.Lines.{input_lines}
use Rattle.opa_talk.specs.Transcript.{IsTranscript}
use Rattle.opa_tree.specs.declared.rulebase.Rulebase.{Rulebase}

-- all that there was to write was written
abbrev pub HasAnswered : Status → Type 0
HasAnswered s = (s ≡ status.Done) ⊎ (s ≡ status.Refused)

module _ (old new : Outside) (result : Status) where
  -- this is the answer, and this was written
  abbrev pub Ended : Status → List ℕ → Type 0
  Ended good text = (result ≡ good) × Appends old.written new.written text

  -- whatever the input gives over what was opened was written
  abbrev pub BatchOver : Result Rulebase (List ℕ) → Type 0
  BatchOver (Ok base) = IfSome old.left (λ bytes. (good : Status) (text : List ℕ) → Gives base bytes good text → Ended good text)
  BatchOver (Err text) = Ended status.Refused text

  -- whatever transcript the input has over what was opened was written
  abbrev pub CasesOver : Result Rulebase (List ℕ) → Type 0
  CasesOver (Ok base) = IfSome old.left (λ bytes. (text : List ℕ) (held : Held) → IsTranscript caseload (at_first base old.files) (input_lines bytes) text held → Ended status.Done text)
  CasesOver (Err text) = Ended status.Refused text

  -- of whatever the files open under the name
  abbrev pub WhateverOpens : List ℕ → (Result Rulebase (List ℕ) → Type 0) → Type 0
  WhateverOpens name Over = HasAnswered result → IfSome old.files (λ files. (opened : Result Rulebase (List ℕ)) → Opens files name opened → Over opened)

-- Nothing else could have been written by a batch over the name, or by a caseload.
abbrev pub OnlyBatch : List ℕ → Outside → Outside → Status → Type 0
OnlyBatch name old new result = WhateverOpens old new result name (BatchOver old new result)

abbrev pub OnlyCases : List ℕ → Outside → Outside → Status → Type 0
OnlyCases name old new result = WhateverOpens old new result name (CasesOver old new result)
