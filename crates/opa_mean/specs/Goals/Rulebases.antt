-- The rulebase of what is free.
use Rattle.opa_tree.specs.declared.rulebase.Rulebase.{Rulebase}
use Rattle.opa_mean.specs.declared.goals.freedom.Frees.{Frees}

abbrev pub rulebase_of : Frees → Rulebase
rulebase_of frees = frees.base.is
