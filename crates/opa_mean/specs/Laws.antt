-- What holds of the meaning of a rulebase.
use Rattle.std.specs.Prelude.{◌≡◌, ℕ, ◌<◌, List, [], ◌∷◌, Some}
use Rattle.std.specs.List.{AllByRecursion}
use Rattle.opa_date.specs.declared.TheConstants.{DAYS}
use Rattle.opa_model.specs.declared.ids.AttrId.{AttrId}
use Rattle.opa_cells.specs.declared.instance.InstanceId.{InstanceId}
use Rattle.opa_cells.specs.Instances.{named}
use Rattle.opa_case.specs.Shapes.{Shape}
use Rattle.opa_case.specs.declared.question.Question.{Question}
use Rattle.opa_case.specs.declared.question.Question.TheVariants as question
use Rattle.opa_tree.specs.declared.expr.Expr.{Expr}
use Rattle.opa_tree.specs.declared.rules.Rule.{Rule}
use Rattle.opa_tree.specs.Rules.{rule_of}
use Rattle.opa_mean.specs.Bases.{IsBase}
use Rattle.opa_mean.specs.Completion.{AreFacts, Completes, KnownStays}
use Rattle.opa_mean.specs.Looks.{Look}
use Rattle.opa_mean.specs.Mean.{Base, Facts, IsLive, look_of, concluded, fitted, mean}
use Rattle.opa_mean.specs.Meaning.{value}
use Rattle.opa_mean.specs.Needs.{UnknownHasNeed, OnlyNeedsDecide}
use Rattle.opa_mean.specs.Places.{chain}
use Rattle.opa_mean.specs.Reads.{reads_of}
use Rattle.opa_mean.specs.Reports.{ReportsFix}
use Rattle.opa_mean.specs.Uses.{Use, Point, Listed, uses}

-- A value is the answer where there is no rule; else it is the value of the rule's tree over the values of what it mentions,
-- fitted.
abbrev pub Determined : Base → Facts → Type 0
Determined b c = (a : AttrId) (i : InstanceId) (d : ℕ)
    → mean b c a i d ≡ concluded (rule_of b.rules a) (c.answer a i d) (λ e. fitted b.shape a (value b.shape (look_of c (mean b c)) e (i ∷ []) d))

-- Over every accepted rulebase and the facts of every case:
abbrev pub Determination : Type 0
Determination = (b : Base) (c : Facts) → IsBase b → Determined b c

-- a value that is known stays in every completion
abbrev pub Monotone : Type 0
Monotone = (b : Base) (c c' : Facts) → AreFacts b.shape c → Completes c c' → KnownStays b c c'

-- the report of a point fixes its value
abbrev pub Supported : Type 0
Supported = (b : Base) (c : Facts) → IsBase b → AreFacts b.shape c → ReportsFix b c

-- an unknown point has a need
abbrev pub Asked : Type 0
Asked = (b : Base) (c : Facts) → IsBase b → UnknownHasNeed b c

-- nothing outside its needs can decide an unknown point
abbrev pub Relevant : Type 0
Relevant = (b : Base) (c c' : Facts) → IsBase b → AreFacts b.shape c → AreFacts b.shape c' → Completes c c' → OnlyNeedsDecide b c c'

-- by two looks a use is the same: the value of a point; or a list, whose instances have the same containers
abbrev pub SameUse : Shape → Look → Look → Use → Type 0
SameUse s l l' (Point a i d) = l.value a i d ≡ l'.value a i d
SameUse s l l' (Listed r i) = (l.members r i ≡ l'.members r i) × ((names : List (List ℕ)) → l.members r i ≡ Some names → AllByRecursion (λ n. chain l'.container (named (s.target r) n) ≡ chain l.container (named (s.target r) n)) names)

-- a tree's value depends only on its uses, and on the containers of the enclosing instances
abbrev pub UsesFix : Type 0
UsesFix = (s : Shape) (l l' : Look) (e : Expr) (enclosing : List InstanceId) (d : ℕ)
    → AllByRecursion (λ i. chain l'.container i ≡ chain l.container i) enclosing → AllByRecursion (SameUse s l l') (uses s l e enclosing d) → value s l e enclosing d ≡ value s l' e enclosing d

-- in two cases a line, or a list, is the same
abbrev pub SameRead : Base → Facts → Facts → Question → Type 0
SameRead b c c' (question.Attr a i) = (d : ℕ) → d < DAYS → mean b c a i d ≡ mean b c' a i d
SameRead b c c' (question.Members r i) = c.members r i ≡ c'.members r i

-- what a rule can look at fixes the line of its attribute
abbrev pub ReadsFix : Type 0
ReadsFix = (b : Base) (c c' : Facts) → IsBase b → AreFacts b.shape c → AreFacts b.shape c' → (a : AttrId) (i : InstanceId) (rule : Rule) → rule_of b.rules a ≡ Some rule → IsLive c i → IsLive c' i
    → reads_of b c a i ≡ reads_of b c' a i → AllByRecursion (SameRead b c c') (reads_of b c a i) → (d : ℕ) → d < DAYS → mean b c a i d ≡ mean b c' a i d
