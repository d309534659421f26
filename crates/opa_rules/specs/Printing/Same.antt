-- Rulebases that are the same, wherever their rules stand.
use Rattle.std.specs.Prelude.{◌≡◌, Bool, map}
use Rattle.opa_model.specs.declared.ids.AttrId.{AttrId}
use Rattle.opa_tree.specs.declared.expr.Expr.{Expr}
use Rattle.opa_tree.specs.declared.rulebase.Rulebase.{Rulebase}
use Rattle.opa_tree.specs.declared.rules.Rule.{Rule}

-- what a rule says, wherever it stands
abbrev pub said : Rule → AttrId × Expr × Bool
said r = (r.attr, r.expr, r.by_if)

-- The same is declared in the same order, and the rules say the same in the same order.
pub record IsSame (base other : Rulebase) : Type 0 where
  pub model : base.model ≡ other.model
  pub rules : map said base.rules ≡ map said other.rules
