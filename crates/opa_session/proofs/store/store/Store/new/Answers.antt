use Rattle.opa_session.proofs.store.Storing.{new_invariant, new_kept}
use Rattle.opa_session.proofs.store.store.Store.new.Goals as goal

pub invariant_of-result : goal.invariant_of-result
invariant_of-result g c = new_invariant c.new.result c.new-2.result c.new.ensures c.new-2.ensures

pub returns-clause-kept : goal.returns-clause-kept
returns-clause-kept g c = new_kept c.new.result c.new.ensures
