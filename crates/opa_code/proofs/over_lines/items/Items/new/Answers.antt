use Rattle.opa_code.specs.OverLines.Tallies.{is_most}
use Rattle.opa_code.proofs.over_lines.Adding.{none_gathered}
use Rattle.opa_code.proofs.over_lines.items.Items.new.Goals as goal

pub returns-clause-none : goal.returns-clause-none
returns-clause-none c = none_gathered _ (c.none.ensures (is_most c.args.gathering)) c.new.ensures c.new-2.ensures
