use Rattle.opa_code.proofs.over_lines.Halving.{stands_whole}
use Rattle.opa_code.proofs.over_lines.operand.whole.Goals as goal

pub returns : goal.returns
returns c = stands_whole c.args.line c.segments-pairs.ensures.form
