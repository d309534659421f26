use Rattle.opa_need.proofs.LastingLaws.{none_lasting}
use Rattle.opa_need.proofs.untils.settled.Goals as goal

pub settled-requires : goal.settled-requires
settled-requires g c = none_lasting (g.H.Held.rules c.args.held.now) (g.H.Held.held c.args.held.now) c.args.found.now c.args.runs.now c.new-noted.result.items c.new-noted.ensures.items
