use Rattle.opa_verify.proofs.verdict.OneVerdict.{one_verdict_holds, one_telling_holds}
use Rattle.opa_verify.proofs.verdict.laws.one_verdict.Goals as goal

pub returns-clause-verdict : goal.returns-clause-verdict
returns-clause-verdict c = one_verdict_holds

pub returns-clause-telling : goal.returns-clause-telling
returns-clause-telling c = one_telling_holds
