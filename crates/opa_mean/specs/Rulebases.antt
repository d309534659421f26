-- What holds of every accepted rulebase and every case that fits it.
use Rattle.std.specs.Prelude.{◌≡◌, ℕ, ◌<◌, false, Some}
use Rattle.std.specs.List.{AllByRecursion}
use Rattle.opa_date.specs.declared.TheConstants.{DAYS}
use Rattle.opa_value.specs.declared.value.Value.{Value}
use Rattle.opa_value.specs.Below.{IsBelow}
use Rattle.opa_model.specs.declared.ids.AttrId.{AttrId}
use Rattle.opa_model.specs.Models.{IsModel}
use Rattle.opa_cells.specs.declared.instance.InstanceId.{InstanceId}
use Rattle.opa_case.specs.Cases.{CaseView, IsLive}
use Rattle.opa_case.specs.Fits.{Fits}
use Rattle.opa_case.specs.Shapes.{shape_of}
use Rattle.opa_tree.specs.declared.rulebase.Rulebase.{Rulebase}
use Rattle.opa_tree.specs.declared.rules.Rule.{Rule}
use Rattle.opa_tree.specs.Rules.{rule_of}
use Rattle.opa_mean.specs.Changes.{is_dirty}
use Rattle.opa_mean.specs.Completion.{Completes}
use Rattle.opa_mean.specs.Frees.{IsFree}
use Rattle.opa_mean.specs.Given.{base_of, facts_of}
use Rattle.opa_mean.specs.Laws.{Determined, SameRead}
use Rattle.opa_mean.specs.Mean.{mean}
use Rattle.opa_mean.specs.Needs.{IsOpen, needs_of, UnknownHasNeed}
use Rattle.opa_mean.specs.Next.{AskedUntilKnown}
use Rattle.opa_mean.specs.Reads.{reads_of}
use Rattle.opa_mean.specs.Reports.{Entry, InReport, Agrees}
use Rattle.opa_mean.specs.Uses.{Point}
use Rattle.opa_value.specs.declared.value.Value.TheVariants.{Unknown}

-- a case fits a rulebase, whose lists are those of a model
pub record IsOf (r : Rulebase) (c : CaseView) : Type 0 where
  pub is_model : IsModel r.model
  pub fits : Fits (shape_of r.model) r.ruled c

abbrev pub value_at : Rulebase → CaseView → AttrId → InstanceId → ℕ → Value
value_at r c a i d = mean (base_of r) (facts_of c) a i d

-- a case completes another
pub record IsCompletion (r : Rulebase) (c c' : CaseView) : Type 0 where
  pub before : IsOf r c
  pub after : IsOf r c'
  pub more : Completes (facts_of c) (facts_of c')

-- what is listed supports a point's value: every case that has it, and in which the instance is live, gives it that value
abbrev pub Supports : Rulebase → (Entry → Type 0) → AttrId → InstanceId → ℕ → Value → Type 0
Supports r lists a i d v = (c : CaseView) → IsOf r c → IsLive c i → Agrees (base_of r) lists (facts_of c) → value_at r c a i d ≡ v

-- Determination: a value is the answer, or its rule's value over the values of what the rule mentions.
abbrev pub Determination : Type 0
Determination = (r : Rulebase) (c : CaseView) → IsOf r c → Determined (base_of r) (facts_of c)

-- a value is known by the case alone: cases with the same facts give the same values
abbrev pub OfTheCaseAlone : Type 0
OfTheCaseAlone = (r : Rulebase) (c c' : CaseView) → facts_of c ≡ facts_of c' → (a : AttrId) (i : InstanceId) (d : ℕ) → value_at r c a i d ≡ value_at r c' a i d

-- what is known stays in every completion
abbrev pub Monotone : Type 0
Monotone = (r : Rulebase) (c c' : CaseView) → IsCompletion r c c' → (a : AttrId) (i : InstanceId) (d : ℕ) → IsFree (base_of r) a → IsLive c i → IsBelow (value_at r c a i d) (value_at r c' a i d)

-- the report of a point supports its value
abbrev pub Supported : Type 0
Supported = (r : Rulebase) (c : CaseView) → IsOf r c → (a : AttrId) (i : InstanceId) (d : ℕ) → IsLive c i → Supports r (InReport (base_of r) (facts_of c) (Point a i d)) a i d (value_at r c a i d)

-- a point is unknown exactly where it has a need
abbrev pub Asked : Type 0
Asked = (r : Rulebase) (c : CaseView) → IsOf r c → UnknownHasNeed (base_of r) (facts_of c)

-- where every need of an unknown point is still open in a completion, the point is still unknown there
abbrev pub Relevant : Type 0
Relevant = (r : Rulebase) (c c' : CaseView) → IsCompletion r c c' → (a : AttrId) (i : InstanceId) (d : ℕ) → IsFree (base_of r) a → IsLive c i → value_at r c a i d ≡ Unknown
    → AllByRecursion (IsOpen (facts_of c')) (needs_of (base_of r) (facts_of c) a i d) → value_at r c' a i d ≡ Unknown

-- a slot that reads the same in two cases, with the same lines and lists, has the same line
abbrev pub ReadsFix : Type 0
ReadsFix = (r : Rulebase) (c c' : CaseView) → IsOf r c → IsOf r c' → (a : AttrId) (i : InstanceId) (rule : Rule) → rule_of r.rules a ≡ Some rule → IsLive c i → IsLive c' i
    → reads_of (base_of r) (facts_of c) a i ≡ reads_of (base_of r) (facts_of c') a i → AllByRecursion (SameRead (base_of r) (facts_of c) (facts_of c')) (reads_of (base_of r) (facts_of c) a i)
    → (d : ℕ) → d < DAYS → value_at r c a i d ≡ value_at r c' a i d

-- a slot that isn't dirty keeps its line
abbrev pub CleanStays : Type 0
CleanStays = (r : Rulebase) (c c' : CaseView) → IsOf r c → IsOf r c' → (a : AttrId) (i : InstanceId) (rule : Rule) → rule_of r.rules a ≡ Some rule → IsLive c' i → is_dirty (base_of r) (facts_of c) (facts_of c') a i ≡ false
    → (d : ℕ) → d < DAYS → value_at r c a i d ≡ value_at r c' a i d

-- nothing is asked exactly where every goal is known at every day
abbrev pub Finished : Type 0
Finished = (r : Rulebase) (c : CaseView) → IsOf r c → AskedUntilKnown (base_of r) (facts_of c)
