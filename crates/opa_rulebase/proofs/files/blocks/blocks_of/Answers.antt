use Rattle.opa_rulebase.proofs.files.LayoutLaws.{all_placed}
use Rattle.opa_rulebase.proofs.files.blocks.blocks_of.Goals as goal

pub returns-in-Ok-clause-placed : goal.returns-in-Ok-clause-placed
returns-in-Ok-clause-placed c = all_placed c.args.place c.in-Ok.laid.items c.in-Ok.ensures.blocks
