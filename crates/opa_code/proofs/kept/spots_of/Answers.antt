use Rattle.std.proofs.Common.{refl}
use Rattle.opa_code.proofs.Keeping.{none_noted}
use Rattle.opa_code.proofs.kept.spots_of.Goals as goal

pub loop-owner-init : goal.loop-owner-init
loop-owner-init g c = none_noted (g.K.Look.looks c.args.look.now) c.args.enclosing.now _ c.new-spots.result refl c.new-spots.ensures
