-- What of a slot is the same in two cases.
use Rattle.std.specs.Prelude.{◌≡◌, Bool, true, ◌&&◌, List, Contains}
use Rattle.opa_model.specs.declared.ids.AttrId.{AttrId}
use Rattle.opa_cells.specs.Instances.{is_same}
use Rattle.opa_cells.specs.declared.instance.InstanceId.{InstanceId}
use Rattle.opa_case.specs.Cases.{CaseView}
use Rattle.opa_case.specs.Live.{is_live, container_of}
use Rattle.opa_case.specs.declared.question.Question.{Question}
use Rattle.opa_case.specs.declared.question.Question.TheVariants as question
use Rattle.opa_tree.specs.declared.rulebase.Rulebase.{Rulebase}
use Rattle.opa_mean.specs.Reached.Dirty.{slot_reads}
use Rattle.opa_mean.specs.Sameness.{same_question, same_lists, same_options}
use Rattle.opa_mean.specs.Slots.{has_place, is_slot}

-- the instance was live in the same container
abbrev pub has_stayed : CaseView → CaseView → InstanceId → Bool
has_stayed c c' i = is_live c.live i && same_options is_same (container_of c.live i) (container_of c'.live i)

-- what the rule can look at is the same in both cases
abbrev pub reads_same : Rulebase → CaseView → CaseView → AttrId → InstanceId → Bool
reads_same r c c' a i = same_lists same_question (slot_reads r c a i) (slot_reads r c' a i)

-- each of these is a live slot
pub record AreSlots (r : Rulebase) (c : CaseView) (slots : List (AttrId × InstanceId)) : Type 0 where
  pub each : (a : AttrId) (i : InstanceId) → Contains slots (a, i) → is_slot r c a i ≡ true

-- the line stands at an instance that has it
abbrev pub HasPlaceIn : Rulebase → CaseView → Question → Type 0
HasPlaceIn r c (question.Attr a i) = has_place r c a i ≡ true
HasPlaceIn r c (question.Members q i) = Unit {0}

-- each line stands, in both cases, at an instance that has it
pub record ArePlaced (r : Rulebase) (c c' : CaseView) (questions : List Question) : Type 0 where
  pub before : (q : Question) → Contains questions q → HasPlaceIn r c q
  pub after : (q : Question) → Contains questions q → HasPlaceIn r c' q
