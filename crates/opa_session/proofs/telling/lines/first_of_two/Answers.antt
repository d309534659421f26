use Rattle.opa_session.proofs.telling.Firsts.{two_lines}
use Rattle.opa_session.proofs.telling.lines.first_of_two.Goals as goal

pub returns : goal.returns
returns c = two_lines c.args.old.now c.args.new.now c.segments-old.ensures.form c.segments-new.ensures.form c.first_difference.result c.first_difference.ensures
