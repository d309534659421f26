use Rattle.opa_wording.proofs.RulesGiven.{rules_are_given_hold, inferences_are_given_hold}
use Rattle.opa_wording.proofs.TablesGiven.{all_rules_are_given_hold}
use Rattle.opa_wording.proofs.laws.rules_are_given.Goals as goal

pub returns-clause-rules : goal.returns-clause-rules
returns-clause-rules c = rules_are_given_hold

pub returns-clause-with_tables : goal.returns-clause-with_tables
returns-clause-with_tables c = all_rules_are_given_hold

pub returns-clause-inferences : goal.returns-clause-inferences
returns-clause-inferences c = inferences_are_given_hold
