use Rattle.opa_session.specs.Store.Stores.{kept_of}
use Rattle.opa_session.proofs.infer.Found.{found_in}
use Rattle.opa_session.proofs.infer.holding.SessionHeld.line.Goals as goal

pub told_line-requires-clause-found : goal.told_line-requires-clause-found
told_line-requires-clause-found g c = found_in c.args.self.now.base c.args.self.now.case (kept_of c.args.self.now.store) c.args.self.now.current c.args.attr c.args.inst.now _ c.get.ensures
