use Rattle.opa_mean.proofs.SameBoth.{sameness_is_exact}
use Rattle.opa_mean.proofs.slot_laws.sameness_is_exact.Goals as goal

pub returns : goal.returns
returns c = sameness_is_exact
