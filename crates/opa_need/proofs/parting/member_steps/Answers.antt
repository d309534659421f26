use Rattle.std.proofs.Common.{subst, List}
use Rattle.opa_cells.specs.declared.instance.InstanceId.{InstanceId}
use Rattle.opa_need.specs.Steps.{StandFor, member_needs}
use Rattle.opa_need.proofs.OpeningLaws.{from_nothing}
use Rattle.opa_need.proofs.parting.member_steps.Goals as goal

pub returns-clause-steps : goal.returns-clause-steps
returns-clause-steps g c =
    let r = g.H.Held.rules c.args.held.now in let held = g.H.Held.held c.args.held.now in
    subst (λ (es : List InstanceId). StandFor r held (member_needs r held c.args.quant c.args.parts.now es c.args.day) c.add_member.new.steps) c.in_ok-put_first.ensures
    (from_nothing r held _ _ _ c.new-steps.ensures c.in_ok-add_member.ensures.adds)
