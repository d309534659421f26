use Rattle.opa_verify.proofs.support.Ledging.{nothing_held}
use Rattle.opa_verify.proofs.support.ledger.nothing_told.Goals as goal

pub returns : goal.returns
returns c = nothing_held (record { runs = c.new.result; lists = c.new-2.result; containers = c.new-3.result }) c.new.ensures c.new-2.ensures c.new-3.ensures
