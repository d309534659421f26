-- Changes that aren't refused keep the bounds of answers.
use Rattle.std.proofs.Common.{◌≡◌, Bool, true, false, cond, not, None, Ok, sym, ap, ◌∙◌, subst}
use Rattle.std.specs.List.{list_all}
use Rattle.std.specs.FinMap.{insert, remove, get-empty}
use Rattle.std.proofs.lemmas.Bool.{not-false}
use Rattle.opa_model.specs.declared.ids.AttrId.{AttrId}
use Rattle.opa_cells.specs.declared.instance.InstanceId.{InstanceId}
use Rattle.opa_cells.specs.Keys.{cell_cmp}
use Rattle.opa_case.specs.declared.change.ChangeCommand.{ChangeCommand}
use Rattle.opa_case.specs.declared.change.ChangeCommand.TheVariants.{Answer as SetAnswer, Withdraw, SetList, Forget}
use Rattle.opa_case.specs.declared.change.Refusal.TheVariants.{Name, Kind, Range}
use Rattle.opa_case.specs.Cases.{CaseView, Answer}
use Rattle.opa_case.specs.Shapes.{Shape, shape_of, attribute_or}
use Rattle.opa_case.specs.Steps.{has_kind, in_bounds, is_unknown_answer, is_unanswerable, is_misplaced, answer_fault, list_fault, within, with_answer, without_answer, with_list, without_list, step}
use Rattle.opa_case.proofs.Answering.{answer_inserted, answer_removed}
use Rattle.opa_case.proofs.Kept.{guard, ok_is, passed, within_is, fault_none}
use Rattle.opa_case.proofs.Settling.{either}
use Rattle.opa_case.proofs.Stepping.{settled_answer}
use Rattle.opa_tree.specs.declared.rulebase.Rulebase.{Rulebase}
use Rattle.opa_rules.specs.Reviewing.NoCase.{KeepsBounds, BoundsAreKept}

module _ (base : Rulebase) where
  abbrev shape : Shape
  shape = shape_of base.model

  abbrev Keeps : CaseView → Type 0
  Keeps c = KeepsBounds base c

  abbrev are_within : AttrId → Answer → Bool
  are_within a line = list_all (λ p. in_bounds (attribute_or base.model a) p.1) line

  -- an answer that isn't refused is within its bounds
  accepted : (c : CaseView) (a : AttrId) (i : InstanceId) (line : Answer) → answer_fault shape base.ruled c a i line ≡ None → are_within a line ≡ true
  accepted c a i line h =
      let named = fault_none (is_unanswerable shape base.ruled c a i) Name _ h in
      let kind = fault_none (not (list_all (λ p. has_kind (shape.attribute a).kind p.1) line)) Kind _ named.1 in
      not-false _ (fault_none (not (are_within a line)) Range _ kind.1).0

  withdrawn : (c : CaseView) (a : AttrId) (i : InstanceId) → Keeps c → Keeps (without_answer c a i)
  withdrawn c a i keeps b j line h = keeps b j line (answer_removed c.answers (a.0, i) (b.0, j) line h)

  answered : (c : CaseView) (a : AttrId) (i : InstanceId) (line : Answer) → are_within a line ≡ true → Keeps c → Keeps (with_answer c a i line)
  answered c a i line is keeps = elim (is_unknown_answer line) as (λ b. Keeps (cond b (without_answer c a i) (record c { answers = insert c.answers (a.0, i) line }))) [
    | true ↦ withdrawn c a i keeps
    | false ↦ λ b j new h. either (are_within b new ≡ true) (answer_inserted c.answers a i line b j new h) (λ x. ap (are_within b) (sym x.2) ∙ ap (λ t. are_within t line) x.0 ∙ is) (λ old. keeps b j new old)
  ]

  kept : (c c' : CaseView) (command : ChangeCommand) → Keeps c → step shape base.ruled c command ≡ Ok c' → Keeps c'
  kept c c' (SetAnswer a i line) keeps h =
      let p = passed (answer_fault shape base.ruled c a i line) (Ok (with_answer c a i line)) c' h in
      subst Keeps (ok_is (with_answer c a i line) c' p.1) (answered c a i line (accepted c a i line p.0) keeps)
  kept c c' (Withdraw a i) keeps h =
      subst Keeps (ok_is (without_answer c a i) c' (guard (is_unanswerable shape base.ruled c a i) Name (Ok (without_answer c a i)) c' h).1) (withdrawn c a i keeps)
  kept c c' (SetList r i names) keeps h =
      subst Keeps (within_is shape base.ruled (with_list shape c r i names) c' (passed (list_fault shape c r i names) (within shape base.ruled (with_list shape c r i names)) c' h).1)
      (λ b j line k. keeps b j line (settled_answer shape (insert c.lists (r.0, i) names) c.answers b j line k).1)
  kept c c' (Forget r i) keeps h =
      subst Keeps (ok_is (without_list shape c r i) c' (guard (is_misplaced shape c r i) Name (Ok (without_list shape c r i)) c' h).1)
      (λ b j line k. keeps b j line (settled_answer shape (remove c.lists (r.0, i)) c.answers b j line k).1)

pub bounds_are_kept : BoundsAreKept
bounds_are_kept base = (λ a i line h. absurd (cc (sym (get-empty cell_cmp (a.0, i)) ∙ h)), kept base)
