use Rattle.opa_wording.proofs.TightLines.{rules_are_tight_hold, rules_nest_at_most_hold}
use Rattle.opa_wording.proofs.laws.rules_are_tight.Goals as goal

pub returns-clause-tight : goal.returns-clause-tight
returns-clause-tight c = rules_are_tight_hold

pub returns-clause-nested : goal.returns-clause-nested
returns-clause-nested c = rules_nest_at_most_hold
