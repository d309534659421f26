use Rattle.std.proofs.Common.{◌≡◌, take}
use Rattle.std.specs.Prelude.{flat_map}
use Rattle.opa_case.specs.Shapes.{shape_of}
use Rattle.opa_session.specs.Telling.Walking.{with_listed}
use Rattle.opa_session.proofs.telling.walk.with_instances.Given as goal

abbrev pub invariant-loop-attr : goal.invariant-loop-attr
invariant-loop-attr l = l.all ≡ flat_map (with_listed (shape_of l.base.model) l.live) (take l.attr-index l.attrs)
