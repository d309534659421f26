-- The mode `verify`: whether a printed report holds up its value.
use Rattle.std.specs.Prelude.{ℕ, ◌≡◌, ◌≤◌, ◌⊎◌, List, [], ◌∷◌, ◌++◌, codes, length, Option, None, Some, IfSome, Result, Ok, Err}
use Rattle.std.specs.FinMap as map
use Rattle.std.specs.Io.KnownBytes.{Appends}
use Rattle.opa_io.specs.Outside.{Files, IsFile, IsTooLong, Rose}
use Rattle.opa_io.specs.declared.fault.Status.{Status}
use Rattle.opa_io.specs.declared.fault.Status.TheVariants as status
use Rattle.opa_verify.specs.Verdict.Telling.{Tells}
use Rattle.opa_verify.specs.declared.verdict.verdict.Verdict.{Verdict}
use Rattle.opa_verify.specs.declared.verdict.verdict.Verdict.TheVariants as verdict
use Rattle.opa_tree.specs.declared.rulebase.Rulebase.{Rulebase}
use Rattle.opa_rulebase.specs.Loading.{Opens}
use Rattle.opa_top.specs.Checking.{HasAnswered, IsOpened, IsTold}
use Rattle.opa_io.specs.declared.limits.TheConstants.{MOST_REPORT}

-- what is told where there is no report to judge: its form breaks at line 0
abbrev pub no_report : List ℕ
no_report = codes "refused: report 1 0" ++ 10 ∷ []

-- how many bytes a report may have
abbrev pub REPORT_MOST : ℕ
REPORT_MOST = MOST_REPORT

-- no file has this name, where files are told
abbrev pub IsNoFile : Option Files → List ℕ → Type 0
IsNoFile None name = Unit {0}
IsNoFile (Some files) name = map.get files name ≡ None

abbrev pub status_of : Verdict → Status
status_of verdict.Yes = status.Done
status_of (verdict.Syntax k) = status.Refused
status_of (verdict.Name k) = status.Refused
status_of (verdict.NotDerived k) = status.Refused

-- A file's text is judged by a rulebase, and what is said of it is told; a longer file, and a name without one, break the text
-- at line 0. Or it ends for a fault of the shelf or for want of memory, and has written nothing.
pub data JudgesFile (r : Rulebase) (files : Option Files) (name : List ℕ) (written written' : Option (List ℕ)) (takes takes' writes writes' : ℕ) : Status → Type 0 where
  judges : {result : Status} (bytes said : List ℕ) (v : Verdict) → IsFile files name bytes → length bytes ≤ REPORT_MOST → Tells r bytes v said → IsTold (status_of v) said written written' writes writes' result
      → JudgesFile r files name written written' takes takes' writes writes' result
  missing : {result : Status} → IsNoFile files name ⊎ IsTooLong files name REPORT_MOST → IsTold status.Refused no_report written written' writes writes' result
      → JudgesFile r files name written written' takes takes' writes writes' result
  cannot_take : Rose takes takes' → Appends written written' [] → JudgesFile r files name written written' takes takes' writes writes' status.ReadFault
  cannot_hold : Appends written written' [] → JudgesFile r files name written written' takes takes' writes writes' status.NoMemory

-- The files open a rulebase, by which the report is judged; or a refusal, which is told.
pub data Verifies (files : Option Files) (name report : List ℕ) (written written' : Option (List ℕ)) (takes takes' writes writes' : ℕ) : Status → Type 0 where
  opens : {result : Status} (base : Rulebase) → IsOpened files name (Ok base) → JudgesFile base files report written written' takes takes' writes writes' result → Verifies files name report written written' takes takes' writes writes' result
  refuses : {result : Status} (text : List ℕ) → IsOpened files name (Err text) → IsTold status.Refused text written written' writes writes' result → Verifies files name report written written' takes takes' writes writes' result
  cannot_load : Rose takes takes' → Appends written written' [] → Verifies files name report written written' takes takes' writes writes' status.ReadFault
  cannot_keep : Appends written written' [] → Verifies files name report written written' takes takes' writes writes' status.NoMemory

module _ (written written' : Option (List ℕ)) (result : Status) where
  -- this is the answer, and this was written
  abbrev pub Ended : Status → List ℕ → Type 0
  Ended good text = (result ≡ good) × Appends written written' text

  -- whatever is told of the report over what was opened; where there is no report, that was told
  abbrev pub OnlyTold : Files → List ℕ → Result Rulebase (List ℕ) → Type 0
  OnlyTold files report (Ok base) =
      ((bytes : List ℕ) → map.get files report ≡ Some bytes → length bytes ≤ REPORT_MOST → (v : Verdict) (said : List ℕ) → Tells base bytes v said → Ended (status_of v) said)
      × (IsNoFile (Some files) report ⊎ IsTooLong (Some files) report REPORT_MOST → Ended status.Refused no_report)
  OnlyTold files report (Err text) = Ended status.Refused text

  -- Nothing else could have been written: whatever the files open, and whatever is told of the report over it, was written.
  abbrev pub IsOnlyVerdict : Option Files → List ℕ → List ℕ → Type 0
  IsOnlyVerdict told name report = HasAnswered result → IfSome told (λ files. (opened : Result Rulebase (List ℕ)) → Opens files name opened → OnlyTold files report opened)
