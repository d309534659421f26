-- Nothing else could have been written by the mode `verify`: files open one thing, and of a report one thing is told.
use Rattle.std.proofs.Common.{◌≡◌, ◌≤◌, ◌<◌, ◌^◌, ◌⊎◌, inl, inr, ℕ, List, length, Option, None, Some, IfSome, Result, Ok, Err, refl, sym, ap, subst, ◌∙◌, arith}
use Rattle.std.specs.FinMap as map
use Rattle.std.specs.Io.KnownBytes.{Appends}
use Rattle.opa_io.specs.Outside.{Files, IsFile, IsTooLong}
use Rattle.opa_io.specs.declared.fault.Status.{Status}
use Rattle.opa_io.specs.declared.fault.Status.TheVariants as status
use Rattle.opa_verify.specs.Verdict.Laws.{OneTelling}
use Rattle.opa_verify.specs.Verdict.Telling.{Tells}
use Rattle.opa_verify.specs.declared.verdict.verdict.Verdict.{Verdict}
use Rattle.opa_rulebase.specs.Loading.{Opens}
use Rattle.opa_laws.specs.Decided.Opening.{OneOpening}
use Rattle.opa_tree.specs.declared.rulebase.Rulebase.{Rulebase}
use Rattle.opa_top.specs.Checking.{HasAnswered, IsOpened}
use Rattle.opa_top.specs.Verifying.{Ended, IsNoFile, IsOnlyVerdict, JudgesFile, OnlyTold, REPORT_MOST, Verifies, no_report, status_of}
use Rattle.opa_top.proofs.OnlyLaws.{told_whole}

one_file : (files : Files) (name bytes other : List ℕ) → map.get files name ≡ Some bytes → map.get files name ≡ Some other → bytes ≡ other
one_file files name bytes other h k = let e : Some bytes ≡ Some other = sym h ∙ k in cc e

no_file : {T : Type 0} (files : Files) (name bytes : List ℕ) → map.get files name ≡ Some bytes → map.get files name ≡ None → T
no_file files name bytes h k = absurd (let e : Some bytes ≡ None = sym h ∙ k in cc e)

unanswered : {T : Type 0} (s : Status) → s ≡ status.ReadFault ⊎ s ≡ status.NoMemory → HasAnswered s → T
unanswered s (inl e) (inl f) = absurd (cc (e, f))
unanswered s (inl e) (inr f) = absurd (cc (e, f))
unanswered s (inr e) (inl f) = absurd (cc (e, f))
unanswered s (inr e) (inr f) = absurd (cc (e, f))

module _ (one_telling : OneTelling) (files : Files) (report : List ℕ) (w w' : Option (List ℕ)) (takes takes' writes writes' : ℕ) (base : Rulebase) where
  judged : (s : Status) → HasAnswered s → JudgesFile base (Some files) report w w' takes takes' writes writes' s → OnlyTold w w' s files report (Ok base)
  judged s answered (JudgesFile.judges bytes said v is few tells told) =
      let wrote = told_whole (status_of v) s said w w' writes writes' answered told in (
        λ other there short x text says.
            let same = one_file files report other bytes there is in
            let one = one_telling base bytes (omega (arith, few)) v x said text tells (subst (λ b. Tells base b x text) same says) in
            (wrote.0 ∙ ap status_of one.0, subst (Appends w w') one.1 wrote.1),
        λ none. absurd (not_there none),
      )
    where
      not_there : IsNoFile (Some files) report ⊎ IsTooLong (Some files) report REPORT_MOST → ⊥
      not_there (inl none) = no_file files report bytes is none
      not_there (inr long) = let same = one_file files report long.0 bytes long.1 is in omega (arith, few, long.2, ap length same)
  judged s answered (JudgesFile.missing none told) = (
    λ other there short x text says. absurd (not_there none other there short),
    λ again. told_whole status.Refused s no_report w w' writes writes' answered told,
  )
    where
      not_there : IsNoFile (Some files) report ⊎ IsTooLong (Some files) report REPORT_MOST → (other : List ℕ) → map.get files report ≡ Some other → length other ≤ REPORT_MOST → ⊥
      not_there (inl gone) other there short = no_file files report other there gone
      not_there (inr long) other there short = let same = one_file files report long.0 other long.1 there in omega (arith, short, long.2, ap length same)
  judged status.ReadFault answered (JudgesFile.cannot_take rose none) = unanswered status.ReadFault (inl refl) answered
  judged status.NoMemory answered (JudgesFile.cannot_hold none) = unanswered status.NoMemory (inr refl) answered

module _ (one_opening : OneOpening) (one_telling : OneTelling) (name report : List ℕ) (w w' : Option (List ℕ)) (takes takes' writes writes' : ℕ) where
  opened_base : (s : Status) (base : Rulebase) (told : Option Files) → IsOpened told name (Ok base) → JudgesFile base told report w w' takes takes' writes writes' s → IsOnlyVerdict w w' s told name report
  opened_base s base None o judges = λ answered. tt
  opened_base s base (Some files) o judges = λ answered other also.
      subst (OnlyTold w w' s files report) (one_opening files name (Ok base) other o also) (judged one_telling files report w w' takes takes' writes writes' base s answered judges)

  opened_refusal : (s : Status) (text : List ℕ) (told : Option Files) → IsOpened told name (Err text) → (HasAnswered s → Ended w w' s status.Refused text) → IsOnlyVerdict w w' s told name report
  opened_refusal s text None o wrote = λ answered. tt
  opened_refusal s text (Some files) o wrote = λ answered other also. subst (OnlyTold w w' s files report) (one_opening files name (Err text) other o also) (wrote answered)

  pub verdict_only : (told : Option Files) (s : Status) → Verifies told name report w w' takes takes' writes writes' s → IsOnlyVerdict w w' s told name report
  verdict_only told s (Verifies.opens base o judges) = opened_base s base told o judges
  verdict_only told s (Verifies.refuses text o said) = opened_refusal s text told o (λ answered. told_whole status.Refused s text w w' writes writes' answered said)
  verdict_only told status.ReadFault (Verifies.cannot_load rose none) = λ answered. unanswered status.ReadFault (inl refl) answered
  verdict_only told status.NoMemory (Verifies.cannot_keep none) = λ answered. unanswered status.NoMemory (inr refl) answered
