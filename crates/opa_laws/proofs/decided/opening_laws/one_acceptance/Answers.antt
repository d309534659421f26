use Rattle.opa_laws.proofs.decided.Accepted.{one_base_holds}
use Rattle.opa_laws.proofs.decided.Refused.{accepted_or_refused_hold}
use Rattle.opa_laws.proofs.decided.opening_laws.one_acceptance.Goals as goal

pub returns-clause-either : goal.returns-clause-either
returns-clause-either c = accepted_or_refused_hold

pub returns-clause-base : goal.returns-clause-base
returns-clause-base c = one_base_holds
