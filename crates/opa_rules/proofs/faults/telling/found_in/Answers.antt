use Rattle.opa_rules.proofs.faults.telling.found_in.Goals as goal

pub returns-in-Ok : goal.returns-in-Ok
returns-in-Ok c = (c.in-Ok.field-0, c.in-Ok.ensures.accepted)
