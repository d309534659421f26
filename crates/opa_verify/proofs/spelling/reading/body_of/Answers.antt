use Rattle.opa_verify.proofs.spelling.Heading.{no_end}
use Rattle.opa_verify.proofs.spelling.reading.body_of.Goals as goal

pub returns-in-None-before : goal.returns-in-None-before
returns-in-None-before c = no_end c.args.start.now c.args.line.now c.in-Some.rest.now c.in-Some.ensures c.in-None-before.ensures
