-- What waits at first, by what reads the questions that differ.
use Rattle.std.specs.Prelude.{◌≡◌, ◌⊎◌, ◌↔◌, true, List, filter, Contains}
use Rattle.opa_model.specs.declared.ids.AttrId.{AttrId}
use Rattle.opa_cells.specs.declared.instance.InstanceId.{InstanceId}
use Rattle.opa_case.specs.Cases.{CaseView}
use Rattle.opa_case.specs.declared.question.Question.{Question}
use Rattle.opa_tree.specs.declared.rulebase.Rulebase.{Rulebase}
use Rattle.opa_mean.specs.Changes.{slots}
use Rattle.opa_mean.specs.Given.{base_of, facts_of}
use Rattle.opa_mean.specs.Reached.Dirty.{is_changed, is_fresh}
use Rattle.opa_mean.specs.Reached.Settling.{Waiting, is_given}
use Rattle.opa_session.specs.Settlement.Tasks.{AreRanked, slots_of}
use Rattle.opa_session.specs.declared.settlement.task.Task.{Task}

-- the fresh slots of a case, in the order of slots
abbrev pub fresh_slots : Rulebase → CaseView → CaseView → Waiting
fresh_slots r c c' = filter (λ s. is_fresh r c c' s.0 s.1) (slots (base_of r) (facts_of c'))

-- These questions differ, and each question that no rule gives, that differs and that a slot reads is among them.
pub record AreTold (r : Rulebase) (c c' : CaseView) (readers : Question → Waiting) (told : List Question) : Type 0 where
  pub differ : (q : Question) → Contains told q → is_changed r c c' q ≡ true
  pub all : (q : Question) (x : AttrId × InstanceId) → Contains (readers q) x → is_given r q ≡ true → is_changed r c c' q ≡ true → Contains told q

-- the slot reads one of these questions
abbrev pub ReadsOne : (Question → Waiting) → List Question → AttrId → InstanceId → Type 0
ReadsOne readers told a i = (q : Question) × (Contains told q × Contains (readers q) (a, i))

-- The readers of questions wait besides.
pub record MarksReaders (r : Rulebase) (readers : Question → Waiting) (told : List Question) (old new : List Task) : Type 0 where
  pub ranked : AreRanked r old → AreRanked r new
  pub waits : (a : AttrId) (i : InstanceId) → Contains (slots_of new) (a, i) ↔ (Contains (slots_of old) (a, i) ⊎ ReadsOne readers told a i)
