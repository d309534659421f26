-- What an accepted rulebase keeps.
use Rattle.std.specs.Prelude.{◌≡◌, ◌<◌, true, Some, Contains}
use Rattle.opa_model.specs.declared.ids.AttrId.{AttrId}
use Rattle.opa_model.specs.declared.ids.RelId.{RelId}
use Rattle.opa_tree.specs.declared.rules.Rule.{Rule}
use Rattle.opa_tree.specs.Ranks.{mentions_of}
use Rattle.opa_tree.specs.Rules.{rule_of}
use Rattle.opa_tree.specs.Trees.{HasForm}
use Rattle.opa_mean.specs.Mean.{Base}

-- a rule mentions attributes of lower rank than its own
abbrev pub RanksFall : Base → Type 0
RanksFall b = (a m : AttrId) → Contains (mentions_of (rule_of b.rules a)) m → b.rank m < b.rank a

-- What an accepted rulebase keeps: ranks fall, trees have their form, and a list of all instances is the global one's.
pub record IsBase (b : Base) : Type 0 where
  pub falls : RanksFall b
  pub formed : (a : AttrId) (rule : Rule) → rule_of b.rules a ≡ Some rule → HasForm rule.expr
  pub of_global : (r : RelId) → b.shape.every r ≡ true → b.shape.source r ≡ 0
