use Rattle.std.proofs.Common.{◌∙◌}
use Rattle.opa_session.proofs.store.Telling.{two_lines}
use Rattle.opa_session.proofs.store.differ.two_differ.Goals as goal

pub returns : goal.returns
returns c = c.is_some.ensures ∙ two_lines c.args.old.now c.args.new.now c.segments-old.ensures.form c.segments-new.ensures.form c.first_difference.result c.first_difference.ensures
