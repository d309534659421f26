-- One case of a caseload by itself: what its lines print and leave.
use Rattle.std.specs.Prelude.{◌≡◌, ◌≢◌, ◌⊎◌, ℕ, Bool, nat_lt, true, false, List, [], ◌∷◌, ◌++◌, length, codes, Option, None, Some, Result, Ok, Err, MatchResult}
use Rattle.opa_case.specs.Cases.{CaseView, no_case}
use Rattle.opa_case.specs.Shapes.{shape_of}
use Rattle.opa_case.specs.Steps.{step}
use Rattle.opa_case.specs.declared.change.ChangeCommand.{ChangeCommand}
use Rattle.opa_tree.specs.declared.rulebase.Rulebase.{Rulebase}
use Rattle.opa_session.specs.Infer.Sessions.{reached}
use Rattle.opa_script.specs.declared.command.Command.{Command}
use Rattle.opa_script.specs.declared.command.Command.TheVariants as command
use Rattle.opa_script.specs.declared.fault.CmdFault.{CmdFault}
use Rattle.opa_script.specs.declared.fault.CmdFault.TheVariants as fault
use Rattle.opa_reply.specs.Reporting.Asking.{next_told}
use Rattle.opa_reply.specs.Reporting.Goals.{goals_told}
use Rattle.opa_reply.specs.Reporting.Shown.{value_told, names_told}
use Rattle.opa_reply.specs.Reporting.Stats.{stats_told}
use Rattle.opa_reply.specs.Refused.{refused_command, refused_change}
use Rattle.opa_cases.specs.declared.kept.KeptCase.{KeptCase}
use Rattle.opa_cases.specs.declared.kept.OpenCase.{OpenCase}
use Rattle.opa_cases.specs.declared.orders.Order.{Order}
use Rattle.opa_cases.specs.declared.orders.Order.TheVariants as order
use Rattle.opa_cases.specs.Orders.{IsOrder, IsNoOrder}
use Rattle.opa_io.specs.declared.limits.TheConstants.{MOST_SUPPOSITIONS}

-- a case with the number of slots that its last change reached, on what was kept for suppositions, the last one last
abbrev pub opened_as : CaseView → ℕ → List KeptCase → OpenCase
opened_as case reached pile = record { case = case; reached = reached; pile = pile }

abbrev pub kept_as : CaseView → ℕ → KeptCase
kept_as case reached = record { case = case; reached = reached }

-- a case that was just opened
abbrev pub fresh : OpenCase
fresh = opened_as no_case 0 []

-- how many suppositions a case may stand on
abbrev pub DEEPEST : ℕ
DEEPEST = MOST_SUPPOSITIONS

abbrev pub line : List ℕ → List ℕ
line text = text ++ 10 ∷ []

-- a change takes its step, or is refused
abbrev pub Changes : Rulebase → OpenCase → ChangeCommand → List ℕ → OpenCase → Type 0
Changes r s k text t =
    MatchResult (step (shape_of r.model) r.ruled s.case k)
    (λ c. (text ≡ []) × (t ≡ opened_as c (reached r s.case c) s.pile))
    (λ e. (text ≡ refused_change e) × (t ≡ s))

-- a command that a caseload doesn't take
abbrev pub Refuses : OpenCase → List ℕ → OpenCase → Type 0
Refuses s text t = (text ≡ refused_command fault.NotACommand) × (t ≡ s)

-- what a command prints and leaves
abbrev pub Does : Rulebase → OpenCase → Command → List ℕ → OpenCase → Type 0
Does r s (command.Change k) text t = Changes r s k text t
Does r s (command.ShowAttr a i) text t = (text ≡ value_told r s.case a i) × (t ≡ s)
Does r s (command.ShowMembers n i) text t = (text ≡ names_told r s.case n i) × (t ≡ s)
Does r s command.Goals text t = (text ≡ goals_told r s.case) × (t ≡ s)
Does r s command.Next text t = (text ≡ next_told r s.case) × (t ≡ s)
Does r s command.Stats text t = (text ≡ stats_told r s.case s.reached) × (t ≡ s)
Does r s command.Nothing text t = Refuses s text t
Does r s command.Screen text t = Refuses s text t
Does r s (command.Report a i d) text t = Refuses s text t
Does r s (command.Save name) text t = Refuses s text t
Does r s (command.Load name) text t = Refuses s text t
Does r s (command.Dismiss n) text t = Refuses s text t

-- the case is kept, and what is changed from now on is supposed
abbrev pub supposed : OpenCase → OpenCase
supposed s = opened_as s.case s.reached (s.pile ++ kept_as s.case s.reached ∷ [])

abbrev pub Supposes : OpenCase → List ℕ → OpenCase → Type 0
Supposes s text t =
    ((nat_lt (length s.pile) DEEPEST ≡ true) × (text ≡ line (codes "supposed")) × (t ≡ supposed s))
    ⊎ ((nat_lt (length s.pile) DEEPEST ≡ false) × (text ≡ line (codes "refused: suppose")) × (t ≡ s))

-- what was kept last is the case again
pub record TakesBack (s : OpenCase) (text : List ℕ) (t : OpenCase) : Type 0 where
  pub kept : KeptCase
  pub pile : List KeptCase
  pub last : s.pile ≡ pile ++ kept ∷ []
  pub says : text ≡ line (codes "undone")
  pub after : t ≡ opened_as kept.case kept.reached pile

abbrev pub Undoes : OpenCase → List ℕ → OpenCase → Type 0
Undoes s text t = ((s.pile ≡ []) × (text ≡ line (codes "refused: undo")) × (t ≡ s)) ⊎ TakesBack s text t

-- what is open after a line; a case that is closed leaves nothing
abbrev pub left_by : Bool → OpenCase → Option OpenCase
left_by true t = None
left_by false t = Some t

-- what an order prints and leaves, and whether it closes the case
abbrev pub Carries : Rulebase → OpenCase → Order → List ℕ → Bool → OpenCase → Type 0
Carries r s order.Nothing text closed t = (text ≡ []) × (closed ≡ false) × (t ≡ s)
Carries r s order.Suppose text closed t = Supposes s text t × (closed ≡ false)
Carries r s order.Undo text closed t = Undoes s text t × (closed ≡ false)
Carries r s order.Close text closed t = (text ≡ line (codes "closed")) × (closed ≡ true)
Carries r s (order.Does c) text closed t = Does r s c text t × (closed ≡ false)

-- what the rest of a line, as it was read, prints and leaves: it is carried out, or refused
abbrev pub Responds : Rulebase → OpenCase → Result Order CmdFault → List ℕ → Bool → OpenCase → Type 0
Responds r s (Ok k) text closed t = Carries r s k text closed t
Responds r s (Err f) text closed t = (f ≢ fault.NoMemory) × (text ≡ refused_command f) × (closed ≡ false) × (t ≡ s)

-- the rest of a line was read so
abbrev pub IsReadAs : Rulebase → List ℕ → Result Order CmdFault → Type 0
IsReadAs r rest (Ok k) = IsOrder r.model rest k
IsReadAs r rest (Err f) = IsNoOrder r.model rest f

-- What the rest of a line prints and leaves.
pub record Replies (r : Rulebase) (s : OpenCase) (rest text : List ℕ) (o : Option OpenCase) : Type 0 where
  pub read : Result Order CmdFault
  pub is : IsReadAs r rest read
  pub closed : Bool
  pub after : OpenCase
  pub responds : Responds r s read text closed after
  pub left : o ≡ left_by closed after

-- a case that isn't open begins anew
abbrev pub opened : Option OpenCase → OpenCase
opened None = fresh
opened (Some s) = s

-- What the lines of one case print, one after another, each text by itself, and what they leave. After it was closed it begins anew.
abbrev pub IsScript : Rulebase → Option OpenCase → List (List ℕ) → List (List ℕ) → Option OpenCase → Type 0
IsScript r o [] texts end = (texts ≡ []) × (end ≡ o)
IsScript r o (rest ∷ more) texts end =
    (text : List ℕ) × (next : Option OpenCase) × Replies r (opened o) rest text next × ((others : List (List ℕ)) × IsScript r next more others end × (texts ≡ text ∷ others))
