-- What an answer that isn't refused makes of a case.
use Rattle.std.proofs.Common.{◌≡◌, Bool, true, false, cond, not, List, Option, None, Some, Result, Ok, Err, IfSome, is_some, refl, sym, ◌∙◌, ap}
use Rattle.std.specs.Prelude.{◌||◌, ◌==◌}
use Rattle.opa_io.proofs.Bools.{neither_first}
use Rattle.opa_model.specs.declared.ids.AttrId.{AttrId}
use Rattle.opa_model.specs.Models.{HasAttribute}
use Rattle.opa_cells.specs.declared.instance.InstanceId.{InstanceId}
use Rattle.opa_case.specs.Cases.{CaseView, Answer}
use Rattle.opa_case.specs.Laws.{ModelsAreShapes, StepFits}
use Rattle.opa_case.specs.Live.{is_live}
use Rattle.opa_case.specs.Refusals.{refusal_of}
use Rattle.opa_case.specs.Shapes.{Shape, shape_of}
use Rattle.opa_case.specs.Steps.{answer, answer_fault, has_rule, is_unanswerable, is_unknown_answer, unless, with_answer, without_answer, withdraw}
use Rattle.opa_case.specs.declared.change.ChangeCommand.TheVariants.{Answer as SetAnswer, Withdraw}
use Rattle.opa_case.specs.declared.change.Refusal.{Refusal}
use Rattle.opa_case.specs.declared.change.Refusal.TheVariants.{Name}
use Rattle.opa_mean.specs.Rulebases.{IsOf}
use Rattle.opa_session.specs.Store.Nexts.{answered}
use Rattle.opa_tree.specs.Rules.{rule_of}
use Rattle.opa_tree.specs.declared.rulebase.Rulebase.{Rulebase}
use Rattle.opa_session.specs.Infer.Coming.{IsAnswerable}

pub refused : {X : Type 0} (x : Result X Refusal) (e : Refusal) → Some e ≡ refusal_of x → x ≡ Err e
refused (Ok x) e h = absurd (cc h)
refused (Err y) e h = cc (sym h)

module _ (s : Shape) (ruled : List Bool) (c : CaseView) (a : AttrId) (i : InstanceId) where
  no_fault : (line : Answer) → None ≡ refusal_of (answer s ruled c a i line) → answer_fault s ruled c a i line ≡ None
  no_fault line h = go (answer_fault s ruled c a i line) h
    where
      go : (o : Option Refusal) → None ≡ refusal_of (unless o (Ok (with_answer c a i line))) → o ≡ None
      go None h = refl
      go (Some e) h = absurd (cc h)

  pub free_of : (line : Answer) → None ≡ refusal_of (answer s ruled c a i line) → is_unanswerable s ruled c a i ≡ false
  free_of line h = go (is_unanswerable s ruled c a i) _ (no_fault line h)
    where
      go : (b : Bool) (o : Option Refusal) → cond b (Some Name) o ≡ None → b ≡ false
      go false o e = refl
      go true o e = absurd (cc e)

  pub sets : (line : Answer) → None ≡ refusal_of (answer s ruled c a i line) → answer s ruled c a i line ≡ Ok (with_answer c a i line)
  sets line h = ap (λ o. unless o (Ok (with_answer c a i line))) (no_fault line h)

  -- what an accepted answer gives
  pub answer_gives : (line : Answer) (c' : CaseView) → answer s ruled c a i line ≡ Ok c' → c' ≡ with_answer c a i line
  answer_gives line c' h = go (answer_fault s ruled c a i line) h
    where
      go : (o : Option Refusal) → unless o (Ok (with_answer c a i line)) ≡ Ok c' → c' ≡ with_answer c a i line
      go None e = cc (sym e)
      go (Some x) e = absurd (cc e)

  pub withdraw_gives : (c' : CaseView) → withdraw s ruled c a i ≡ Ok c' → c' ≡ answered c a i None
  withdraw_gives c' h = go (is_unanswerable s ruled c a i) h
    where
      go : (b : Bool) → cond b (Err Name) (Ok (without_answer c a i)) ≡ Ok c' → c' ≡ answered c a i None
      go false e = cc (sym e)
      go true e = absurd (cc e)

  pub free_too : None ≡ refusal_of (withdraw s ruled c a i) → is_unanswerable s ruled c a i ≡ false
  free_too h = go (is_unanswerable s ruled c a i) h
    where
      go : (b : Bool) → None ≡ refusal_of (cond b (Err Name) (Ok (without_answer c a i))) → b ≡ false
      go false e = refl
      go true e = absurd (cc e)

  pub withdrawn : None ≡ refusal_of (withdraw s ruled c a i) → withdraw s ruled c a i ≡ Ok (answered c a i None)
  withdrawn h = ap (λ b. cond b (Err Name) (Ok (without_answer c a i))) (free_too h)

pub silent : (c : CaseView) (a : AttrId) (i : InstanceId) (line : Answer) → is_unknown_answer line ≡ true → with_answer c a i line ≡ answered c a i None
silent c a i line e = ap (λ b. cond b (answered c a i None) (answered c a i (Some line))) e

pub telling : (c : CaseView) (a : AttrId) (i : InstanceId) (line : Answer) → is_unknown_answer line ≡ false → with_answer c a i line ≡ answered c a i (Some line)
telling c a i line e = ap (λ b. cond b (answered c a i None) (answered c a i (Some line))) e

module _ (r : Rulebase) (c : CaseView) (is : IsOf r c) (shapes : ModelsAreShapes) (fits : StepFits) (a : AttrId) (i : InstanceId) (declared : HasAttribute r.model a) where
  abbrev s : Shape
  s = shape_of r.model

  pub answerable : (line : Answer) (o : Option Answer) → None ≡ refusal_of (answer s r.ruled c a i line) → with_answer c a i line ≡ answered c a i o → IfSome o (λ l. is_unknown_answer l ≡ false) → IsAnswerable r c a i o
  answerable line o none same tells = record {
    declared = declared;
    free = free_of s r.ruled c a i line none;
    tells = tells;
    fits = record { is_model = is.is_model; fits = fits s r.ruled (shapes r.model is.is_model) c (answered c a i o) (SetAnswer a i line) declared is.fits (sets s r.ruled c a i line none ∙ ap Ok same) };
  }

  pub withdrawable : None ≡ refusal_of (withdraw s r.ruled c a i) → IsAnswerable r c a i None
  withdrawable none = record {
    declared = declared;
    free = free_too s r.ruled c a i none;
    tells = tt;
    fits = record { is_model = is.is_model; fits = fits s r.ruled (shapes r.model is.is_model) c (answered c a i None) (Withdraw a i) declared is.fits (withdrawn s r.ruled c a i none) };
  }

-- an attribute that can be answered has no rule
pub unruled : (r : Rulebase) (c : CaseView) (a : AttrId) (i : InstanceId) (o : Option Answer) → IsAnswerable r c a i o → is_some (rule_of r.rules a) ≡ false
unruled r c a i o h = sym (r.ruled_by.by_rules a h.declared) ∙ neither_first (has_rule r.ruled a) (not (is_live c.live i)) (neither_first (has_rule r.ruled a || not (is_live c.live i)) (not (i.entity.0 == ((shape_of r.model).attribute a).entity.0)) h.free)
