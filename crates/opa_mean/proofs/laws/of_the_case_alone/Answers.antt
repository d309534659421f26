use Rattle.opa_mean.proofs.LawsOver.{of_the_case_alone_holds}
use Rattle.opa_mean.proofs.laws.of_the_case_alone.Goals as goal

pub returns : goal.returns
returns c = of_the_case_alone_holds
