use Rattle.opa_case.proofs.Empty.{empty_fits}
use Rattle.opa_case.proofs.laws.empty_fits.Goals as goal

pub returns : goal.returns
returns c = empty_fits
