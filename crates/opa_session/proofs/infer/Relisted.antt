-- What a list command makes of a case, from the case with the list laid over it.
use Rattle.std.specs.Prelude.{unwrap_or}
use Rattle.std.proofs.Common.{◌≡◌, Option, None, Some, Result, Ok, Err, ap, sym, ◌∙◌, subst}
use Rattle.opa_model.specs.declared.ids.RelId.{RelId}
use Rattle.opa_model.specs.Models.{HasRelation}
use Rattle.opa_cells.specs.declared.instance.InstanceId.{InstanceId}
use Rattle.opa_case.specs.Cases.{CaseView}
use Rattle.opa_case.specs.Laws.{KeepContainers, ModelsAreShapes, StepFits, StepKeepsContainers}
use Rattle.opa_case.specs.Homes.{AreCounts}
use Rattle.opa_case.specs.Live.{Names}
use Rattle.opa_case.specs.Moves.{AreMovesOf}
use Rattle.opa_case.specs.Overlays.{relisted_case}
use Rattle.opa_case.specs.Relists.{relisted}
use Rattle.opa_case.specs.Shapes.{Shape, shape_of}
use Rattle.opa_case.specs.Steps.{is_misplaced, list_fault, within, with_list, without_list}
use Rattle.opa_case.specs.Turns.{Turns}
use Rattle.opa_case.specs.declared.change.ChangeCommand.TheVariants.{SetList, Forget}
use Rattle.opa_case.specs.declared.change.Refusal.{Refusal}
use Rattle.opa_case.specs.declared.change.Refusal.TheVariants.{Name}
use Rattle.opa_case.specs.declared.moves.Moves.{Moves}
use Rattle.opa_case.specs.declared.relisted.Relisted.{Relisted}
use Rattle.opa_case.proofs.Kept.{guard, ok_is, passed, within_is}
use Rattle.opa_mean.specs.Reached.ByLists.{IsByLists, RelistedIsByLists}
use Rattle.opa_mean.specs.Reached.Settling.{shift}
use Rattle.opa_mean.specs.Rulebases.{IsOf}
use Rattle.opa_tree.specs.declared.rulebase.Rulebase.{Rulebase}
use Rattle.opa_session.specs.Infer.Relisting.{relists, coming}

pub same_case : {X : Type 0} (x : Result X Refusal) (a b : X) → x ≡ Ok a → x ≡ Ok b → a ≡ b
same_case x a b h k = cc (sym h ∙ k)

-- what a list makes of a case that is accepted is the case that comes
pub is_coming : (r : Rulebase) (c : CaseView) (q : RelId) (i : InstanceId) (o : Option Names) (v : CaseView) → relists r c q i o ≡ Ok v → v ≡ coming r c q i o
is_coming r c q i None v h = let s = shape_of r.model in sym (ok_is (without_list s c q i) v (guard (is_misplaced s c q i) Name (Ok (without_list s c q i)) v h).1)
is_coming r c q i (Some names) v h = let s = shape_of r.model in sym (within_is s r.ruled (with_list s c q i names) v (passed (list_fault s c q i names) (within s r.ruled (with_list s c q i names)) v h).1)

-- what a list moves of a case is the same by other names
pub moves_are : (s s' : Shape) (c c' : CaseView) (q q' : RelId) (i i' : InstanceId) (o o' : Option Names) (m : Moves) → c' ≡ c → i' ≡ i → relisted s' c' q' i' o' ≡ relisted s c q i o → AreMovesOf s' c' q' i' o' m → AreMovesOf s c q i o m
moves_are s s' c c' q q' i i' o o' m case inst next are = record {
  turns = subst (λ (v : CaseView). Turns v.live (relisted s c q i o).live m.went.items m.came.items i) case
      (subst (λ (v : CaseView). Turns c'.live v.live m.went.items m.came.items i) next
      (subst (λ (j : InstanceId). Turns c'.live (relisted s' c' q' i' o').live m.went.items m.came.items j) inst are.turns));
  counts = subst (λ (v : CaseView). AreCounts m.counts v.live) next are.counts;
  every = ap (λ (v : CaseView). unwrap_or m.every v.every) (sym case) ∙ are.every ∙ ap (λ (v : CaseView). v.every) next;
}

-- what holds of the case that comes holds of whatever the command makes of the held one
pub by_coming : (P : CaseView → CaseView → Type 0) (x : Result CaseView Refusal) (held old new : CaseView) → held ≡ old → x ≡ Ok new → P old new → (c : CaseView) → x ≡ Ok c → P held c
by_coming P x held old new e ok p c h = subst (λ v. P v c) (sym e) (subst (P old) (same_case x new c ok h) p)

pub never_refused : {Q : Type 0} (x : Result CaseView Refusal) (new : CaseView) (e : Refusal) → x ≡ Ok new → x ≡ Err e → Q
never_refused x new e h k = absurd (cc (sym h ∙ k))

module _ (r : Rulebase) (c : CaseView) (is : IsOf r c) (shapes : ModelsAreShapes) (fits : StepFits) (keeps : StepKeepsContainers) (q : RelId) (declared : HasRelation r.model q) (i : InstanceId) where
  -- the case that comes fits, and leaves everything where it stood
  pub coming_fits : (o : Option Names) (c' : CaseView) → relists r c q i o ≡ Ok c' → IsOf r c'
  coming_fits None c' h = record { is_model = is.is_model; fits = fits (shape_of r.model) r.ruled (shapes r.model is.is_model) c c' (Forget q i) declared is.fits h }
  coming_fits (Some names) c' h = record { is_model = is.is_model; fits = fits (shape_of r.model) r.ruled (shapes r.model is.is_model) c c' (SetList q i names) declared is.fits h }

  coming_keeps : (o : Option Names) (c' : CaseView) → relists r c q i o ≡ Ok c' → KeepContainers c c'
  coming_keeps None c' h = keeps (shape_of r.model) r.ruled (shapes r.model is.is_model) c c' (Forget q i) declared is.fits h
  coming_keeps (Some names) c' h = keeps (shape_of r.model) r.ruled (shapes r.model is.is_model) c c' (SetList q i names) declared is.fits h

  pub coming_is_by_lists : RelistedIsByLists → (o : Option Names) (n : Relisted) → c ≡ n.case.now → relists r c q i o ≡ Ok (relisted_case n) → IsByLists (shift r n.case.now (relisted_case n))
  coming_is_by_lists law o n e h =
      law r n (subst (λ (v : CaseView). IsOf r v) e is) (coming_fits o (relisted_case n) h) (subst (λ (v : CaseView). KeepContainers v (relisted_case n)) e (coming_keeps o (relisted_case n) h))
