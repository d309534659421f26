use Rattle.std.proofs.Common.{◌∙◌}
use Rattle.opa_session.specs.Store.Stores.{staged_of}
use Rattle.opa_session.proofs.infer.Firstly.{none_staged}
use Rattle.opa_session.proofs.infer.first.nothing_staged.Goals as goal

pub returns-clause-staged : goal.returns-clause-staged
returns-clause-staged g c = none_staged (staged_of c.new-store.result) c.slots-none.result.now c.slots-none.ensures.listed (c.slots-none.ensures.slots ∙ c.new-store.ensures.staged)
