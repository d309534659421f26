use Rattle.opa_reply.proofs.Changing.{short}
use Rattle.opa_reply.proofs.changes.change.Goals as goal

pub returns-in-Err-NoMemory-clause-err : goal.returns-in-Err-NoMemory-clause-err
returns-in-Err-NoMemory-clause-err g c =
    let e = c.in-Err-NoMemory.ensures in
    short _ _ _ _ _ _ _ _ _ _ e.base e.case e.still e.quiet c.args.command e.bound e.uncounted
