use Rattle.std.proofs.Common.{arith, subst, ap}
use Rattle.opa_case.specs.Cases.{CaseView}
use Rattle.opa_case.specs.Homes.{AreCounts}
use Rattle.opa_case.specs.Shapes.{shape_of}
use Rattle.opa_case.proofs.Counting.{slots_few}
use Rattle.opa_case.proofs.case.Case.slots_of.Goals as goal

pub returns-clause-few : goal.returns-clause-few
returns-clause-few c =
    let is = c.slots_of.ensures c.args.self.now.live (subst (AreCounts c.self.inside.living.counts) (ap (λ (v : CaseView). v.live) c.self.view_is) c.self.invariant.1) in
    let most = slots_few (shape_of c.args.model.now) c.args.ruled.now c.args.self.now.live c.args.attr in
    omega (arith, is, most, c.instances-instances.ensures.value, c.instances-instances.ensures.few)
