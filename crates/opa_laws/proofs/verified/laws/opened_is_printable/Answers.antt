use Rattle.opa_laws.proofs.verified.OpenedPrintable.{opened_is_model_holds, opened_is_printable_holds}
use Rattle.opa_laws.proofs.verified.laws.opened_is_printable.Goals as goal

pub returns-clause-model : goal.returns-clause-model
returns-clause-model c = opened_is_model_holds

pub returns-clause-printable : goal.returns-clause-printable
returns-clause-printable c = opened_is_printable_holds
