-- What code stands for.
use Rattle.opa_tree.specs.declared.rulebase.Rulebase.{Rulebase}
use Rattle.opa_code.specs.declared.code.Code.{Code}

-- the rulebase that the code was made from
abbrev pub rulebase_of : Code → Rulebase
rulebase_of code = code.base.is
