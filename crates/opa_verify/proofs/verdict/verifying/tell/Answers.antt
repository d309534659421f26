use Rattle.std.proofs.Common.{subst}
use Rattle.opa_verify.specs.Spelling.Reading.{IsReadFrom}
use Rattle.opa_verify.proofs.verdict.Saying.{tells_syntax}
use Rattle.opa_verify.proofs.verdict.verifying.tell.Goals as goal

pub returns-in_ok-told-in-BrokenAt : goal.returns-in_ok-told-in-BrokenAt
returns-in_ok-told-in-BrokenAt c =
    let told = c.in_ok-told-in-BrokenAt in
    tells_syntax c.args.base.now c.args.report.now c.in-BrokenAt.line told.told.verdict told.told.text told.ensures.verdict told.ensures.text (subst (IsReadFrom c.args.report.now) c.in-BrokenAt.is c.in_ok-line.ensures)
