use Rattle.std.proofs.Common.{◌∙◌}
use Rattle.opa_session.specs.Store.Stores.{staged_of}
use Rattle.opa_session.proofs.store.Listing.{among, none_staged}
use Rattle.opa_session.proofs.settlement.settling.nothing_staged.Goals as goal

pub returns : goal.returns
returns g c = none_staged (staged_of c.args.store.now) c.slots-slots.result.now (c.slots-slots.ensures.slots ∙ c.requires) (among (staged_of c.args.store.now) c.slots-slots.result.now c.slots-slots.ensures.listed)
