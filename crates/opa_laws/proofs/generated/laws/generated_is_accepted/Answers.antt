use Rattle.opa_laws.proofs.generated.GeneratedBase.{generated_is_accepted_holds, generated_is_not_refused_holds, only_rules_are_accepted_hold, only_rules_are_rules_hold}
use Rattle.opa_laws.proofs.generated.laws.generated_is_accepted.Goals as goal

pub returns-clause-accepted : goal.returns-clause-accepted
returns-clause-accepted c = generated_is_accepted_holds

pub returns-clause-not_refused : goal.returns-clause-not_refused
returns-clause-not_refused c = generated_is_not_refused_holds c.one_opening.ensures

pub returns-clause-alone : goal.returns-clause-alone
returns-clause-alone c = only_rules_are_rules_hold

pub returns-clause-accepted_alone : goal.returns-clause-accepted_alone
returns-clause-accepted_alone c = only_rules_are_accepted_hold
