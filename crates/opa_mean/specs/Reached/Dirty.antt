-- Which slots a change reaches, told by what their rules can look at.
use Rattle.std.specs.Prelude.{◌≡◌, ◌≢◌, ℕ, ◌<◌, true, false, Bool, ◌&&◌, ◌||◌, not, is_some, List, Contains}
use Rattle.std.specs.FinMap.{get}
use Rattle.std.specs.List.{list_any, AllByRecursion}
use Rattle.opa_model.specs.declared.ids.AttrId.{AttrId}
use Rattle.opa_cells.specs.Instances.{is_same}
use Rattle.opa_cells.specs.declared.instance.InstanceId.{InstanceId}
use Rattle.opa_case.specs.Cases.{CaseView, IsLive}
use Rattle.opa_case.specs.Live.{is_live, container_of}
use Rattle.opa_case.specs.Laws.{KeepContainers}
use Rattle.opa_case.specs.declared.question.Question.{Question}
use Rattle.opa_case.specs.declared.question.Question.TheVariants as question
use Rattle.opa_model.specs.declared.ids.RelId.{RelId}
use Rattle.opa_tree.specs.declared.rulebase.Rulebase.{Rulebase}
use Rattle.opa_tree.specs.Rules.{rule_of}
use Rattle.opa_mean.specs.Changes.{is_dirty, differs, first_difference}
use Rattle.opa_mean.specs.Given.{base_of, facts_of, line_value}
use Rattle.opa_mean.specs.Reads.{reads_of}
use Rattle.opa_mean.specs.Sameness.{same_question, same_lists, same_options}
use Rattle.opa_mean.specs.Frees.{IsFree}
use Rattle.opa_mean.specs.Slots.{has_place}
use Rattle.opa_tree.specs.Ranks.{rank_at}
use Rattle.opa_mean.specs.Rulebases.{IsOf, IsCompletion, value_at}
use Rattle.opa_date.specs.declared.TheConstants.{DAYS}
use Rattle.opa_value.specs.declared.value.Value.TheVariants.{Unknown}

abbrev pub slot_reads : Rulebase → CaseView → AttrId → InstanceId → List Question
slot_reads r c a i = reads_of (base_of r) (facts_of c) a i

-- a line, or a list, differs in two cases
abbrev pub is_changed : Rulebase → CaseView → CaseView → Question → Bool
is_changed r c c' = differs (base_of r) (facts_of c) (facts_of c')

abbrev pub is_reached : Rulebase → CaseView → CaseView → AttrId → InstanceId → Bool
is_reached r c c' = is_dirty (base_of r) (facts_of c) (facts_of c')

-- The instance wasn't live in the same container before, or what the slot's rule can look at differs.
abbrev pub is_fresh : Rulebase → CaseView → CaseView → AttrId → InstanceId → Bool
is_fresh r c c' a i =
    not (is_live c.live i && same_options is_same (container_of c.live i) (container_of c'.live i))
    || not (same_lists same_question (slot_reads r c a i) (slot_reads r c' a i))

-- A slot is dirty exactly where it is fresh, or a line or a list differs that its rule can look at.
abbrev pub FreshOrReads : Type 0
FreshOrReads = (r : Rulebase) (c c' : CaseView) (a : AttrId) (i : InstanceId) → is_reached r c c' a i ≡ (is_fresh r c c' a i || list_any (is_changed r c c') (slot_reads r c' a i))

-- The line of an attribute without a rule differs exactly where its answer does.
abbrev pub AnswersDiffer : Type 0
AnswersDiffer = (r : Rulebase) (c c' : CaseView) → IsOf r c → IsOf r c' → (a : AttrId) (i : InstanceId) → is_some (rule_of r.rules a) ≡ false
    → is_changed r c c' (question.Attr a i) ≡ is_some (first_difference DAYS (line_value (get c.answers (a.0, i))) (line_value (get c'.answers (a.0, i))))

-- What was live before is dirty exactly where a line or a list differs that its rule could look at before.
abbrev pub DirtyByOldReads : Type 0
DirtyByOldReads = (r : Rulebase) (c c' : CaseView) → IsOf r c → IsOf r c' → KeepContainers c c' → (a : AttrId) (i : InstanceId) → IsLive c i → IsLive c' i
    → is_reached r c c' a i ≡ list_any (is_changed r c c') (slot_reads r c a i)

-- The same of what its rule can look at afterwards.
abbrev pub DirtyByNewReads : Type 0
DirtyByNewReads = (r : Rulebase) (c c' : CaseView) → IsOf r c → IsOf r c' → KeepContainers c c' → (a : AttrId) (i : InstanceId) → IsLive c i → IsLive c' i
    → is_reached r c c' a i ≡ list_any (is_changed r c c') (slot_reads r c' a i)

-- What wasn't live before is dirty.
abbrev pub NewIsDirty : Type 0
NewIsDirty = (r : Rulebase) (c c' : CaseView) (a : AttrId) (i : InstanceId) → is_live c.live i ≡ false → is_reached r c c' a i ≡ true

-- What is known at every day, of an attribute that never rests on whether something is known, is the same in every completion.
abbrev pub SettledStays : Type 0
SettledStays = (r : Rulebase) (c c' : CaseView) → IsCompletion r c c' → (a : AttrId) (i : InstanceId) → IsFree (base_of r) a → IsLive c i → ((d : ℕ) → d < DAYS → value_at r c a i d ≢ Unknown)
    → (d : ℕ) → d < DAYS → value_at r c' a i d ≡ value_at r c a i d

-- Where no list that a slot reads differs, it reads the same afterwards.
abbrev pub ReadsStay : Type 0
ReadsStay = (r : Rulebase) (c c' : CaseView) → IsOf r c → IsOf r c' → KeepContainers c c' → (a : AttrId) (i : InstanceId) → IsLive c i → IsLive c' i
    → ((q : RelId) (j : InstanceId) → Contains (slot_reads r c a i) (question.Members q j) → is_changed r c c' (question.Members q j) ≡ false) → slot_reads r c a i ≡ slot_reads r c' a i

-- what a slot reads: a line of an attribute of lower rank at a place of it, or a list at a live instance
abbrev pub IsReadBy : Rulebase → CaseView → AttrId → Question → Type 0
IsReadBy r c a (question.Attr m i) = (has_place r c m i ≡ true) × (rank_at r.ranks m < rank_at r.ranks a)
IsReadBy r c a (question.Members q i) = IsLive c i

-- What a live instance's slot reads is of lower rank, and at live instances.
abbrev pub ReadsAreLower : Type 0
ReadsAreLower = (r : Rulebase) (c : CaseView) → IsOf r c → (a : AttrId) (i : InstanceId) → IsLive c i → AllByRecursion (IsReadBy r c a) (slot_reads r c a i)
