use Rattle.opa_case.proofs.Stepping.{step_fits}
use Rattle.opa_case.proofs.laws.step_fits.Goals as goal

pub returns : goal.returns
returns c = step_fits
