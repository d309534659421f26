use Rattle.opa_mean.specs.Reached.Settling.{laid_over}
use Rattle.opa_session.specs.Store.Stores.{kept_of, staged_of}
use Rattle.opa_session.proofs.infer.Found.{found_in}
use Rattle.opa_session.proofs.infer.laid.LaidLined.line.Goals as goal

pub told_line-requires-clause-found : goal.told_line-requires-clause-found
told_line-requires-clause-found g c =
    let n = g.N.Next.next c.args.self.now.next.now in
    found_in c.args.self.now.base.now n (laid_over n (kept_of c.args.self.now.store.now) (staged_of c.args.self.now.store.now)) c.args.self.now.current c.args.attr c.args.inst.now _ c.laid_line-found.ensures
