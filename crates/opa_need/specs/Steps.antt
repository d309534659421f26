-- Steps on the way to all questions: what they ask for, and what is claimed when they come to the front.
use Rattle.std.specs.Prelude.{◌≡◌, ◌≢◌, ℕ, ◌+◌, ◌-◌, ◌<◌, ◌≤◌, List, [], ◌∷◌, ◌++◌, Option, None, Some, ◌&&◌, nat_le, nat_lt, find, reverse, flat_map}
use Rattle.std.specs.Borrow.{Bor}
use Rattle.std.specs.List.{AllByRecursion}
use Rattle.std.specs.FinMap.{FinMap, get}
use Rattle.opa_date.specs.declared.TheConstants.{DAYS}
use Rattle.opa_value.specs.declared.value.Value.{Value}
use Rattle.opa_model.specs.declared.ids.AttrId.{AttrId}
use Rattle.opa_model.specs.declared.ids.RelId.{RelId}
use Rattle.opa_cells.specs.Instances.{named}
use Rattle.opa_cells.specs.Keys.{cell_cmp}
use Rattle.opa_cells.specs.declared.instance.InstanceId.{InstanceId}
use Rattle.opa_case.specs.Cases.{CaseView, IsLive, list_of}
use Rattle.opa_case.specs.Shapes.{shape_of}
use Rattle.opa_case.specs.declared.question.Question.{Question}
use Rattle.opa_tree.specs.declared.expr.Expr.{Expr}
use Rattle.opa_tree.specs.declared.expr.Row.{Row}
use Rattle.opa_tree.specs.declared.kinds.Quant.{Quant}
use Rattle.opa_tree.specs.declared.rulebase.Rulebase.{Rulebase}
use Rattle.opa_window.specs.Days.{days}
use Rattle.opa_mean.specs.Given.{base_of, facts_of}
use Rattle.opa_case.specs.Live.{container_of}
use Rattle.opa_line.specs.Lines.{at}
use Rattle.opa_value.specs.declared.value.Value.TheVariants.{Unknown}
use Rattle.opa_mean.specs.Meaning.{value}
use Rattle.opa_mean.specs.Places.{owner_of, place}
use Rattle.opa_mean.specs.Needs.{asked, over_needs}
use Rattle.opa_mean.specs.Uses.{Use, Uses, Listed, at_place_uses, last_days_uses}
use Rattle.opa_need.specs.Finding.{AreFound, added}
use Rattle.opa_need.specs.Members.{AreOfOperands}
use Rattle.opa_mean.specs.PartNeeds as part
use Rattle.opa_need.specs.declared.steps.Step.{Step}
use Rattle.opa_need.specs.declared.steps.Step.TheVariants as step
use Rattle.opa_need.specs.declared.runs.Run.{Run}

-- from a day on and below another, what is needed is found
abbrev pub IsSettled : (ℕ → List Use) → List Question → ℕ → ℕ → Type 0
IsSettled f found day until = (k : ℕ) → day ≤ k → k < until → AreFound found (f k)

-- a line has the value from a day on and below another, which is a day of the calendar or its end
abbrev pub IsStay : List (ℕ × Value) → ℕ → ℕ → Value → Type 0
IsStay l d until v = ((k : ℕ) → d ≤ k → k < until → at l k ≡ Some v) × (until ≤ DAYS)

-- a line is known from a day on and below another
abbrev pub IsKnownOn : List (ℕ × Value) → ℕ → ℕ → Type 0
IsKnownOn l d until = (k : ℕ) → d ≤ k → k < until → at l k ≢ Some Unknown

module _ (r : Rulebase) (c : CaseView) where
  -- the needs of a tree, and those of a part, which has some only where it is unknown
  abbrev pub tree_needs : Expr → Uses
  tree_needs = part.tree_needs (base_of r) (facts_of c)

  abbrev pub part_needs : Expr → Uses
  part_needs = part.open_needs (shape_of r.model) (part.fresh_look (base_of r) (facts_of c)) (asked (shape_of r.model) (facts_of c).members) (part.point_needs (base_of r) (facts_of c))

  abbrev pub point_needs : AttrId → InstanceId → ℕ → List Use
  point_needs = part.point_needs (base_of r) (facts_of c)

  abbrev pub part_value : Expr → List InstanceId → ℕ → Value
  part_value = value (shape_of r.model) (part.fresh_look (base_of r) (facts_of c))

  abbrev pub days_needs : Expr → List InstanceId → ℕ → ℕ → List Use
  days_needs e enclosing first end = flat_map (part_needs e enclosing) (days first (end - first))

  -- the needs of a member of a quantifier, of the quantifier, of a function over time, and of a table
  abbrev pub member_needs : Quant → List Expr → Uses
  member_needs = part.member_needs (shape_of r.model) (part.fresh_look (base_of r) (facts_of c)) (asked (shape_of r.model) (facts_of c).members) (part.point_needs (base_of r) (facts_of c))

  abbrev pub quantifier_needs : Quant → RelId → List Expr → Uses
  quantifier_needs q rel es enclosing d = at_place_uses (place (container_of c.live) enclosing ((shape_of r.model).source rel)) (λ i.
      over_needs (asked (shape_of r.model) (list_of c) rel i) (λ n. member_needs q es (named ((shape_of r.model).target rel) n ∷ enclosing) d) (list_of c rel i))

  -- of members one behind the other: the instances of the entity that have these names
  abbrev pub members_needs : Quant → ℕ → List (List ℕ) → List Expr → Uses
  members_needs q t names es enclosing d = flat_map (λ n. member_needs q es (named t n ∷ enclosing) d) names

  abbrev pub span_needs : List Expr → Uses
  span_needs = part.span_needs (shape_of r.model) (part.fresh_look (base_of r) (facts_of c)) (asked (shape_of r.model) (facts_of c).members) (part.point_needs (base_of r) (facts_of c))

  abbrev pub rows_needs : List Row → Expr → Uses
  rows_needs = part.rows_needs (shape_of r.model) (part.fresh_look (base_of r) (facts_of c)) (asked (shape_of r.model) (facts_of c).members) (part.point_needs (base_of r) (facts_of c))

  abbrev pub parts_needs : List Expr → Uses
  parts_needs es enclosing d = flat_map (λ e. part_needs e enclosing d) es

  -- on so many days that end with the day itself, and of an attribute at its place
  abbrev pub last_needs : ℕ → Expr → Uses
  last_needs n e enclosing d = last_days_uses n (part_needs e enclosing) d

  abbrev pub attr_needs : AttrId → Uses
  attr_needs a enclosing d = at_place_uses (place (container_of c.live) enclosing (owner_of (shape_of r.model) a)) (λ i. point_needs a i d)

  -- a part has the value from a day on and below another
  abbrev pub HasUntil : Expr → List InstanceId → ℕ → ℕ → Value → Type 0
  HasUntil e enclosing d until v = (k : ℕ) → d ≤ k → k < until → part_value e enclosing k ≡ v

  -- a part is known from a day on and below another
  abbrev pub IsKnownUntil : Expr → List InstanceId → ℕ → ℕ → Type 0
  IsKnownUntil e enclosing d until = (k : ℕ) → d ≤ k → k < until → part_value e enclosing k ≢ Unknown

  -- what a step asks for
  abbrev pub step_needs : Step → List Use
  step_needs (step.Tree e enclosing d) = tree_needs e.now enclosing d
  step_needs (step.Part e enclosing d) = part_needs e.now enclosing d
  step_needs (step.Point a i d) = point_needs a i d
  step_needs (step.Listed l i) = Listed l i ∷ []
  step_needs (step.Days e enclosing first end) = days_needs e.now enclosing first end
  step_needs (step.AfterDay e enclosing d end) = days_needs e.now enclosing (d + 1) end
  step_needs (step.AfterPoint a i d) = []
  step_needs (step.AfterTree e enclosing d) = []
  step_needs (step.Parts es enclosing d) = parts_needs es.now enclosing d
  step_needs (step.Members q t names es values enclosing d) = members_needs q t names.now es.now enclosing d

  -- what is found when a step comes to the front
  abbrev pub claim : Step → List Use
  claim (step.AfterDay e enclosing d end) = part_needs e.now enclosing d
  claim (step.AfterPoint a i d) = point_needs a i d
  claim (step.AfterTree e enclosing d) = tree_needs e.now enclosing d
  claim _ = []

  abbrev pub AreAsking : List Step → List Use
  AreAsking steps = flat_map step_needs steps

  -- each claim holds once the steps before it are taken
  abbrev pub AreSound : List Question → List Step → Type 0
  AreSound found [] = Unit {0}
  AreSound found (s ∷ steps) = AreFound found (claim s) × AreSound (added found (step_needs s)) steps

  -- the instances of the entity that have these names are live
  abbrev pub AreListed : ℕ → List (List ℕ) → Type 0
  AreListed t names = AllByRecursion (λ n. IsLive c (named t n)) names

  -- a step's instances are live, and its days are days of the calendar
  abbrev pub IsReady : Step → Type 0
  IsReady (step.Tree e enclosing d) = AllByRecursion (IsLive c) enclosing × (d < DAYS)
  IsReady (step.Part e enclosing d) = AllByRecursion (IsLive c) enclosing × (d < DAYS)
  IsReady (step.Point a i d) = IsLive c i × (d < DAYS)
  IsReady (step.Listed l i) = Unit {0}
  IsReady (step.Days e enclosing first end) = AllByRecursion (IsLive c) enclosing × (end ≤ DAYS)
  IsReady (step.AfterDay e enclosing d end) = AllByRecursion (IsLive c) enclosing × (d < DAYS) × (end ≤ DAYS)
  IsReady (step.AfterPoint a i d) = IsLive c i × (d < DAYS)
  IsReady (step.AfterTree e enclosing d) = AllByRecursion (IsLive c) enclosing × (d < DAYS)
  IsReady (step.Parts es enclosing d) = AllByRecursion (IsLive c) enclosing × (d < DAYS)
  IsReady (step.Members q t names es values enclosing d) = AllByRecursion (IsLive c) enclosing × (d < DAYS) × AreListed t names.now × AreOfOperands r c es.now values

  -- Steps that stand for needs: they ask for them in order, claim nothing of their own, and are ready.
  pub record StandFor (us : List Use) (steps : List Step) : Type 0 where
    pub asking : flat_map step_needs steps ≡ us
    pub plain : AllByRecursion (λ s. claim s ≡ []) steps
    pub ready : AllByRecursion IsReady steps

  -- steps that stand for more needs
  abbrev pub Adds : List Use → List Step → List Step → Type 0
  Adds us old new = (vs : List Use) → StandFor vs old → StandFor (vs ++ us) new

  -- steps that stand for needs are put before the others
  abbrev pub PutsOn : List Use → List Step → List Step → Type 0
  PutsOn us old steps = (new : List Step) × StandFor us new × (reverse steps ≡ new ++ reverse old)

  -- Of parts none asks for anything, or it is the tree of this one that does first, and those behind it come later.
  abbrev pub IsFirstPart : List Expr → List InstanceId → ℕ → Option (Bor Expr × Bor (List Expr)) → Type 0
  IsFirstPart es enclosing d None = parts_needs es enclosing d ≡ []
  IsFirstPart es enclosing d (Some x) = parts_needs es enclosing d ≡ tree_needs x.0.now enclosing d ++ parts_needs x.1.now enclosing d

  -- Of members none asks for anything, or these steps stand for the first that does, and those behind it come later.
  abbrev pub IsFirstMember : Quant → ℕ → List (List ℕ) → List Expr → List InstanceId → ℕ → Option (List Step × Bor (List (List ℕ))) → Type 0
  IsFirstMember q t names es enclosing d None = members_needs q t names es enclosing d ≡ []
  IsFirstMember q t names es enclosing d (Some x) =
      (us : List Use) × StandFor us x.0 × AreListed t x.1.now × (members_needs q t names es enclosing d ≡ us ++ members_needs q t x.1.now es enclosing d)

  -- on each day of the run the point's questions are found
  abbrev pub IsRun : List Question → AttrId → InstanceId → Run → Type 0
  IsRun found a i run = (k : ℕ) → run.first ≤ k → k < run.end → AreFound found (point_needs a i k)

  abbrev pub AreRuns : List Question → FinMap cell_cmp (List Run) → Type 0
  AreRuns found runs = (a : AttrId) (i : InstanceId) (own : List Run) → get runs (a.0, i) ≡ Some own → AllByRecursion (IsRun found a i) own

  -- where the runs are right and what is needed on a day is found, what is needed from it on and below another is found
  abbrev pub Settles : List Question → FinMap cell_cmp (List Run) → (ℕ → List Use) → ℕ → ℕ → Type 0
  Settles found runs f day until = AreRuns found runs → AreFound found (f day) → IsSettled f found day until

  -- What was found and what the steps ask for are all questions together; their claims hold, and so do the runs.
  pub record IsOnTheWay (total found : List Question) (runs : FinMap cell_cmp (List Run)) (steps : List Step) : Type 0 where
    pub whole : added found (flat_map step_needs steps) ≡ total
    pub sound : AreSound found steps
    pub ready : AllByRecursion IsReady steps
    pub found_on : AreRuns found runs

  -- what a step leaves keeps all questions together
  abbrev pub LeadsOn : Step → List Question → FinMap cell_cmp (List Run) → List Step → List Question → FinMap cell_cmp (List Run) → List Step → Type 0
  LeadsOn s found runs steps found' runs' steps' = (total : List Question) → IsOnTheWay total found runs (s ∷ reverse steps) → IsOnTheWay total found' runs' (reverse steps')

  -- a step gives way to others, whatever is found
  abbrev pub GivesWay : Step → List Step → List Step → Type 0
  GivesWay s steps steps' = (found : List Question) (runs : FinMap cell_cmp (List Run)) → LeadsOn s found runs steps found runs steps'

-- the first run that has the day
abbrev pub IsRunOf : Option (List Run) → ℕ → Run → Type 0
IsRunOf None d run = ⊥
IsRunOf (Some own) d run = find (λ k. nat_le k.first d && nat_lt d k.end) own ≡ Some run
