-- Which slots read a question can be decided, so that a fact of it that is kept without its proof can be had again.
use Rattle.std.proofs.Common.{◌≡◌, Bool, true, false, List, Contains, refl, sym, ◌∙◌, ap, subst}
use Rattle.std.proofs.Math.Logic.{∥∥₁_elim}
use Rattle.std.specs.List.{list_any}
use Rattle.opa_model.specs.declared.ids.AttrId.{AttrId}
use Rattle.opa_cells.specs.declared.instance.InstanceId.{InstanceId}
use Rattle.opa_case.specs.Cases.{CaseView}
use Rattle.opa_case.specs.declared.question.Question.{Question}
use Rattle.opa_mean.specs.Sameness.{same_question}
use Rattle.opa_mean.specs.Slots.{is_slot}
use Rattle.opa_mean.proofs.Exact.{question_exact}
use Rattle.opa_mean.proofs.SameBoth.{question_itself}
use Rattle.opa_tree.specs.declared.rulebase.Rulebase.{Rulebase}
use Rattle.opa_mean.specs.Reached.Dirty.{slot_reads}
use Rattle.opa_mean.specs.Reached.Settling.{AreReaders, IsByAnswers, ReadersStay, Waiting, is_slot_same, shift}
use Rattle.opa_mean.proofs.reached.Causes.{witness, passes_in}
use Rattle.opa_mean.proofs.reached.Staging.{same_slot, slot_itself}

abbrev Pair : Type 0
Pair = AttrId × InstanceId

no_proof : IsProp ⊥
no_proof x y = absurd x

-- what is among some by a test, or isn't not among them, is
decided : {X : Type 0} (p : X → Bool) (xs : List X) (x : X) → p x ≡ true → ((y : X) → p y ≡ true → y ≡ x) → ((Contains xs x → ⊥) → ⊥) → Contains xs x
decided p xs x itself exact not = go (list_any p xs) refl
  where
    go : (b : Bool) → list_any p xs ≡ b → Contains xs x
    go true e = let w = witness p xs e in subst (Contains xs) (exact w.0 w.1.1) w.1.0
    go false e = absurd (not (λ h. cc (e, passes_in p xs x h itself)))

question_in : (xs : List Question) (q : Question) → ((Contains xs q → ⊥) → ⊥) → Contains xs q
question_in xs q = decided (same_question q) xs q (question_itself q) (λ y h. sym (question_exact q y h))

slot_in : (xs : Waiting) (a : AttrId) (i : InstanceId) → ((Contains xs (a, i) → ⊥) → ⊥) → Contains xs (a, i)
slot_in xs a i = decided {X = Pair} (λ x. is_slot_same x.0 x.1 a i) xs (a, i) (slot_itself a i) (λ y h. let e = same_slot y.0 y.1 a i h in ap (λ (b : AttrId). let p : Pair = (b, y.1) in p) e.0 ∙ ap (λ (j : InstanceId). let p : Pair = (a, j) in p) e.1)

pub known : (r : Rulebase) (c : CaseView) (readers : Question → Waiting) → ∥ AreReaders r c readers ∥₁ → AreReaders r c readers
known r c readers told = record {
  slots = λ q a i h. decided_true (is_slot r c a i) (λ no. ∥∥₁_elim told no_proof (λ are. no (are.slots q a i h)));
  read = λ q a i h. question_in (slot_reads r c a i) q (λ no. ∥∥₁_elim told no_proof (λ are. no (are.read q a i h)));
  all = λ q a i slot h. slot_in (readers q) a i (λ no. ∥∥₁_elim told no_proof (λ are. no (are.all q a i slot h)));
}
  where
    decided_true : (b : Bool) → ((b ≡ true → ⊥) → ⊥) → b ≡ true
    decided_true true not = refl
    decided_true false not = absurd (not (λ e. cc e))

-- Where cases differ in answers at most, the readers are those of the coming case too.
pub still_known : ReadersStay → (r : Rulebase) (c c' : CaseView) (readers : Question → Waiting) → IsByAnswers (shift r c c') → ∥ AreReaders r c readers ∥₁ → AreReaders r c' readers
still_known law r c c' readers by told = law (shift r c c') by readers (known r c readers told)
