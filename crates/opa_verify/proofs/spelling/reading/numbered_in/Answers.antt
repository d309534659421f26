use Rattle.std.proofs.Common.{◌∙◌}
use Rattle.opa_verify.proofs.spelling.Heading.{numbered_reads}
use Rattle.opa_verify.proofs.spelling.reading.numbered_in.Goals as goal

pub returns : goal.returns
returns c =
    numbered_reads c.args.number c.as_str.result.now c.args.line.now c.in-Some.body.now c.in_ok-found-in-Some.found (c.as_str.ensures.value ∙ c.in_ok-start.ensures.ok) c.in-Some.ensures c.in_ok-found-in-Some.ensures
