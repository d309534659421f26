use Rattle.opa_verify.proofs.listed.Shading.{shaded}
use Rattle.opa_verify.proofs.listed.laws.seen_by_shades.Goals as goal

pub returns : goal.returns
returns c = shaded
