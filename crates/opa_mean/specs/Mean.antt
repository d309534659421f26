-- The fresh determination: what the rules conclude from the answers of one case at one day. It knows nothing else.
use Rattle.std.specs.Prelude.{ℕ, zero, suc, Bool, true, false, List, [], ◌∷◌, Option, None, Some, Contains}
use Rattle.opa_value.specs.declared.value.Value.{Value}
use Rattle.opa_value.specs.declared.value.Value.TheVariants.{Uncertain}
use Rattle.opa_value.specs.Fit.{fit_of}
use Rattle.opa_model.specs.declared.ids.AttrId.{AttrId}
use Rattle.opa_model.specs.declared.things.Kind.{Kind}
use Rattle.opa_model.specs.declared.things.Kind.TheVariants as kind
use Rattle.opa_cells.specs.declared.instance.InstanceId.{InstanceId}
use Rattle.opa_tree.specs.declared.expr.Expr.{Expr}
use Rattle.opa_tree.specs.declared.rules.Rule.{Rule}
use Rattle.opa_tree.specs.Rules.{rule_of}
use Rattle.opa_case.specs.Live.{Lists}
use Rattle.opa_case.specs.Shapes.{Shape}
use Rattle.opa_mean.specs.Looks.{Look}
use Rattle.opa_mean.specs.Meaning.{value}

-- of a rulebase: what is declared, the rules, and their ranks
pub record Base : Type 0 where
  pub shape : Shape
  pub rules : List Rule
  pub rank : AttrId → ℕ

-- of a case: the answers at each day, unknown where there is none, the known lists, the container of each live instance
-- but the global one, and the live instances in their order
pub record Facts : Type 0 where
  pub answer : AttrId → InstanceId → ℕ → Value
  pub members : Lists
  pub container : InstanceId → Option InstanceId
  pub instances : List InstanceId

abbrev pub IsLive : Facts → InstanceId → Type 0
IsLive c i = Contains c.instances i

-- the case's lists and containers, beside values
abbrev pub look_of : Facts → (AttrId → InstanceId → ℕ → Value) → Look
look_of c f = record { value = f; members = c.members; container = c.container }

-- the answer where there is no rule, else what its tree gives
abbrev pub concluded : Option Rule → Value → (Expr → Value) → Value
concluded None answer f = answer
concluded (Some rule) answer f = f rule.expr

abbrev pub is_money : Kind → Bool
is_money kind.Bool = false
is_money kind.Number = false
is_money kind.Currency = true
is_money kind.Words = false
is_money kind.Date = false

-- a concluded currency is rounded
abbrev pub fitted : Shape → AttrId → Value → Value
fitted s a v = fit_of (is_money (s.attribute a).kind) v

-- the value of an attribute of a rank below n
unfoldable pub mean_by : Base → Facts → ℕ → AttrId → InstanceId → ℕ → Value
mean_by b c zero a i d = Uncertain
mean_by b c (suc n) a i d =
    concluded (rule_of b.rules a) (c.answer a i d) (λ e. fitted b.shape a (value b.shape (look_of c (mean_by b c n)) e (i ∷ []) d))

-- A rule mentions attributes of lower rank, so that the recursion ends at the rank. `Determination` says the same without it.
abbrev pub mean : Base → Facts → AttrId → InstanceId → ℕ → Value
mean b c a i d = mean_by b c (suc (b.rank a)) a i d
