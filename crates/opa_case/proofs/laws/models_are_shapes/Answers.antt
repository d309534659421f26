use Rattle.opa_case.proofs.Shaped.{shape_is}
use Rattle.opa_case.proofs.laws.models_are_shapes.Goals as goal

pub returns : goal.returns
returns c = shape_is
