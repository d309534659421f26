-- How a review ends.
use Rattle.std.proofs.Common.{◌≡◌, inl, inr, ℕ, List, IfSome, Ok, Err, sym, subst}
use Rattle.std.specs.Io.KnownBytes.{Appends}
use Rattle.opa_io.specs.Outside.{AppendsFront}
use Rattle.opa_io.specs.declared.fault.Status.{Status}
use Rattle.opa_io.specs.declared.fault.Status.TheVariants as status
use Rattle.opa_talk.specs.WholeInput.Telling.{IsTold}
use Rattle.opa_tree.specs.declared.faults.RbFault.{RbFault}
use Rattle.opa_tree.specs.declared.rulebase.Rulebase.{Rulebase}
use Rattle.opa_rulebase.specs.declared.fault.LoadError.{LoadError}
use Rattle.opa_rulebase.specs.declared.fault.LoadError.TheVariants as load
use Rattle.opa_rulebase.specs.Loading.{Opens, HasLoadError}
use Rattle.opa_rules.specs.Promises.{Outside, review_answer, Reviews, WroteReview, WroteRefusal}
use Rattle.opa_rules.proofs.OpeningLaws.{opening, opens_refusal}

module _ (name : List ℕ) (old new : Outside) (shown : Rulebase → List ℕ) where
  pub tells_review : (base : Rulebase) (text : List ℕ) (result : Status) → IfSome old.files (λ files. Opens files name (Ok base)) → text ≡ shown base → IsTold status.Done text old.written new.written old.writes new.writes result
      → Reviews name old new shown result
  tells_review base text result opens e (inl told) =
      subst (Reviews name old new shown) (sym told.0) (opening name (WroteReview name old new shown) (Ok base) old.files opens (subst (λ (t : List ℕ). Appends old.written new.written t) e told.1))
  tells_review base text result opens e (inr told) =
      subst (Reviews name old new shown) (sym told.0) (told.1, opening name (λ opened. AppendsFront old.written new.written (review_answer shown opened)) (Ok base) old.files opens (subst (λ (t : List ℕ). AppendsFront old.written new.written t) e told.2))

  refusal_told : (text : List ℕ) (result : Status) → IfSome old.files (λ files. Opens files name (Err text)) → IsTold status.Refused text old.written new.written old.writes new.writes result → Reviews name old new shown result
  refusal_told text result opens (inl told) = subst (Reviews name old new shown) (sym told.0) (opening name (WroteRefusal name old new) (Err text) old.files opens told.1)
  refusal_told text result opens (inr told) =
      subst (Reviews name old new shown) (sym told.0) (told.1, opening name (λ opened. AppendsFront old.written new.written (review_answer shown opened)) (Err text) old.files opens told.2)

  pub tells_refused : (error : LoadError) (fault : RbFault) (text printed : List ℕ) (result : Status) → error ≡ load.Refused fault text → HasLoadError old.files name old.takes new.takes error → printed ≡ text → IsTold status.Refused printed old.written new.written old.writes new.writes result
      → Reviews name old new shown result
  tells_refused error fault text shown result e has s told =
      refusal_told text result (opens_refusal name old.files fault text (subst (HasLoadError old.files name old.takes new.takes) e has)) (subst (λ (t : List ℕ). IsTold status.Refused t old.written new.written old.writes new.writes result) s told)
