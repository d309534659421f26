use Rattle.std.proofs.Common.{ap}
use Rattle.opa_cells.specs.Instances.{named}
use Rattle.opa_code.proofs.Listing.{place_filled}
use Rattle.opa_code.proofs.members.put_first.Goals as goal

pub returns : goal.returns
returns c = place_filled c.args.all.now.items _ (named c.args.entity c.args.name.now) c.requires (ap (named c.args.entity) c.in_ok-name.ensures)
