-- What another case makes new: slots, and questions that no rule gives.
use Rattle.std.specs.Prelude.{◌≡◌, ℕ, true, not, ◌&&◌, cond, is_some, List, [], ◌∷◌, filter, Contains}
use Rattle.std.specs.FinMap.{get}
use Rattle.opa_date.specs.declared.TheConstants.{DAYS}
use Rattle.opa_model.specs.declared.ids.AttrId.{AttrId}
use Rattle.opa_model.specs.declared.ids.RelId.{RelId}
use Rattle.opa_cells.specs.declared.instance.InstanceId.{InstanceId}
use Rattle.opa_case.specs.Cases.{CaseView, list_of}
use Rattle.opa_case.specs.declared.question.Question.{Question}
use Rattle.opa_case.specs.declared.question.Question.TheVariants as question
use Rattle.opa_mean.specs.Reached.Dirty.{is_changed, is_fresh}
use Rattle.opa_mean.specs.Reached.Settling.{Waiting, is_given}
use Rattle.opa_mean.specs.Changes.{first_difference}
use Rattle.opa_mean.specs.Given.{line_value}
use Rattle.opa_mean.specs.Sameness.{same_names}
use Rattle.opa_tree.specs.Rules.{rule_of}
use Rattle.opa_tree.specs.declared.rulebase.Rulebase.{Rulebase}

-- of these slots those that are fresh
abbrev pub fresh_among : Rulebase → CaseView → CaseView → List (AttrId × InstanceId) → List (AttrId × InstanceId)
fresh_among r c c' slots = filter (λ s. is_fresh r c c' s.0 s.1) slots

abbrev pub attr_at : ℕ → AttrId
attr_at n = record { 0 = n }

abbrev pub rel_at : ℕ → RelId
rel_at n = record { 0 = n }

-- the answer of an attribute without a rule, where it differs
abbrev pub answer_told : Rulebase → CaseView → CaseView → ℕ × InstanceId → List Question
answer_told r c c' k =
    cond (not (is_some (rule_of r.rules (attr_at k.0))) && is_some (first_difference DAYS (line_value (get c.answers k)) (line_value (get c'.answers k)))) (question.Attr (attr_at k.0) k.1 ∷ []) []

-- the same where nothing was answered before
abbrev pub newly_told : Rulebase → CaseView → CaseView → ℕ × InstanceId → List Question
newly_told r c c' k = cond (is_some (get c.answers k)) [] (answer_told r c c' k)

-- a list, where it differs
abbrev pub list_told : CaseView → CaseView → ℕ × InstanceId → List Question
list_told c c' k = cond (not (same_names (list_of c (rel_at k.0) k.1) (list_of c' (rel_at k.0) k.1))) (question.Members (rel_at k.0) k.1 ∷ []) []

-- Each of these is a question that no rule gives and that differs, and each such question that a slot reads is among them.
pub record AreGiven (r : Rulebase) (c c' : CaseView) (readers : Question → Waiting) (told : List Question) : Type 0 where
  pub given : (q : Question) → Contains told q → is_given r q ≡ true
  pub differ : (q : Question) → Contains told q → is_changed r c c' q ≡ true
  pub all : (q : Question) (x : AttrId × InstanceId) → Contains (readers q) x → is_given r q ≡ true → is_changed r c c' q ≡ true → Contains told q

-- Exactly the answers that differ, of attributes that no rule gives.
pub record AreAnswersTold (r : Rulebase) (c c' : CaseView) (told : List Question) : Type 0 where
  pub given : (q : Question) → Contains told q → is_given r q ≡ true
  pub differ : (q : Question) → Contains told q → is_changed r c c' q ≡ true
  pub all : (a : AttrId) (i : InstanceId) → is_given r (question.Attr a i) ≡ true → is_changed r c c' (question.Attr a i) ≡ true → Contains told (question.Attr a i)
