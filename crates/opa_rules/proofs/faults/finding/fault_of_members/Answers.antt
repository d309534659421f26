use Rattle.std.proofs.Common.{refl}
use Rattle.opa_rules.specs.Faults.Listing.{IsFirst}
use Rattle.opa_rules.proofs.FaultLaws.{plain_first}
use Rattle.opa_rules.proofs.faults.finding.fault_of_members.Goals as goal

pub returns-in-Err-clause-fault : goal.returns-in-Err-clause-fault
returns-in-Err-clause-fault c =
    plain_first c.args.tables.now c.args.blocks.now c.in-Err.error c.without_circle.result c.without_circle.ensures
    (λ f e. IsFirst.at_members c.args.model.now c.requires.declared (c.in-Err.ensures.refused f e) refl)
