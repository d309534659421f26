use Rattle.opa_rules.proofs.FaultLaws.{short_lines}
use Rattle.opa_rules.proofs.faults.finding.first_fault.Goals as goal

pub read_declarations-requires : goal.read_declarations-requires
read_declarations-requires c = short_lines c.args.blocks.now c.requires
