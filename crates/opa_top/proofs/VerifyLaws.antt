-- What the mode `verify` does, from what its parts ensure.
use Rattle.std.proofs.Common.{◌≡◌, ◌≤◌, inl, inr, ℕ, List, Option, Some, None, length, subst}
use Rattle.opa_io.specs.Outside.{Files, IsFile, IsMissing, IsTooLong, Rose}
use Rattle.opa_io.specs.declared.fault.Status.{Status}
use Rattle.opa_io.specs.declared.fault.Status.TheVariants as status
use Rattle.opa_io.proofs.Appended.{Appends-none}
use Rattle.opa_io.proofs.Outsides.{rose_before}
use Rattle.opa_verify.specs.Verdict.Telling.{Tells}
use Rattle.opa_verify.specs.declared.verdict.verdict.Verdict.{Verdict}
use Rattle.opa_tree.specs.declared.rulebase.Rulebase.{Rulebase}
use Rattle.opa_top.specs.Checking.{IsTold}
use Rattle.opa_top.specs.Verifying.{IsNoFile, JudgesFile, REPORT_MOST, no_report, status_of}

no_file : (told : Option Files) (name : List ℕ) (before now : ℕ) → IsMissing told name before now → IsNoFile told name
no_file None name before now h = tt
no_file (Some files) name before now h = h.0

module _ (r : Rulebase) (files : Option Files) (name : List ℕ) (w w' : Option (List ℕ)) (takes takes' writes writes' : ℕ) where
  pub file_judged : (bytes read said text : List ℕ) (v : Verdict) (s result : Status) → IsFile files name bytes → length bytes ≤ REPORT_MOST → read ≡ bytes → Tells r read v said → s ≡ status_of v → text ≡ said
      → IsTold s text w w' writes writes' result → JudgesFile r files name w w' takes takes' writes writes' result
  file_judged bytes read said text v s result is few same tells ends says told =
      JudgesFile.judges bytes said v is few (subst (λ b. Tells r b v said) same tells) (subst (λ t. IsTold (status_of v) t w w' writes writes' result) says (subst (λ x. IsTold x text w w' writes writes' result) ends told))

  pub file_missing : (result : Status) → IsMissing files name takes takes' → IsTold status.Refused no_report w w' writes writes' result → JudgesFile r files name w w' takes takes' writes writes' result
  file_missing result missing told = JudgesFile.missing (inl (no_file files name takes takes' missing)) told

  pub file_too_long : (result : Status) → IsTooLong files name REPORT_MOST → IsTold status.Refused no_report w w' writes writes' result → JudgesFile r files name w w' takes takes' writes writes' result
  file_too_long result long told = JudgesFile.missing (inr long) told

module _ (r : Rulebase) (files : Option Files) (name : List ℕ) (w : Option (List ℕ)) (takes takes' writes : ℕ) where
  pub file_not_taken : Rose takes takes' → JudgesFile r files name w w takes takes' writes writes status.ReadFault
  file_not_taken rose = JudgesFile.cannot_take rose (Appends-none w)

  pub file_not_held : JudgesFile r files name w w takes takes' writes writes status.NoMemory
  file_not_held = JudgesFile.cannot_hold (Appends-none w)

pub ruleset judging = (file_judged, file_missing, file_too_long, file_not_taken, file_not_held)

pub judged_later : (r : Rulebase) (files : Option Files) (name : List ℕ) (w w' : Option (List ℕ)) (takes mid takes' writes writes' : ℕ) (s : Status) → takes ≤ mid → JudgesFile r files name w w' mid takes' writes writes' s
    → JudgesFile r files name w w' takes takes' writes writes' s
judged_later r files name w w' takes mid takes' writes writes' s less (JudgesFile.judges bytes said v is few tells told) = JudgesFile.judges bytes said v is few tells told
judged_later r files name w w' takes mid takes' writes writes' s less (JudgesFile.missing none told) = JudgesFile.missing none told
judged_later r files name w w' takes mid takes' writes writes' status.ReadFault less (JudgesFile.cannot_take rose none) = JudgesFile.cannot_take (rose_before takes mid takes' less rose) none
judged_later r files name w w' takes mid takes' writes writes' status.NoMemory less (JudgesFile.cannot_hold none) = JudgesFile.cannot_hold none
