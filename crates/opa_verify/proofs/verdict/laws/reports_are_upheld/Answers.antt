use Rattle.opa_verify.proofs.verdict.Judged.{reports_hold_up_holds}
use Rattle.opa_verify.proofs.verdict.Renamed.{reports_are_upheld_holds}
use Rattle.opa_verify.proofs.verdict.laws.reports_are_upheld.Goals as goal

pub returns-clause-lines : goal.returns-clause-lines
returns-clause-lines c = reports_hold_up_holds

pub returns-clause-texts : goal.returns-clause-texts
returns-clause-texts c = reports_are_upheld_holds
