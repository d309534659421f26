use Rattle.opa_wording.proofs.TextsLaws.{more_lines}
use Rattle.opa_wording.proofs.texts.lines_are_texts.Goals as goal

pub loop-line-preserved : goal.loop-line-preserved
loop-line-preserved c = more_lines c.args.lines.now c.loop-line.rest.now c.in-Some.later.now c.in-Some.line.now c.in-Some.ensures c.is_utf8.ensures c.loop-line.invariant
