use Rattle.std.proofs.Common.{refl}
use Rattle.opa_rules.specs.Faults.Listing.{IsFirst}
use Rattle.opa_rules.proofs.FaultLaws.{plain_first, checked_first}
use Rattle.opa_rules.proofs.faults.finding.fault_of_rules.Goals as goal

pub returns-in-Ok-clause-fault : goal.returns-in-Ok-clause-fault
returns-in-Ok-clause-fault c =
    checked_first c.args.tables.now c.args.blocks.now c.args.model.now c.args.inferences.now c.in-Ok.rules c.requires.declared c.requires.inferred c.in-Ok.ensures.rules c.fault_of_check.result c.fault_of_check.ensures.fault

pub returns-in-Err-clause-fault : goal.returns-in-Err-clause-fault
returns-in-Err-clause-fault c =
    plain_first c.args.tables.now c.args.blocks.now c.in-Err.error c.without_circle.result c.without_circle.ensures
    (λ f e. IsFirst.at_rules c.args.model.now c.args.inferences.now c.requires.declared c.requires.inferred (c.in-Err.ensures.refused f e) refl)
