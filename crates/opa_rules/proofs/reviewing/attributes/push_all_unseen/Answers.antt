use Rattle.std.proofs.Common.{◌≡◌, ◌++◌, sym, ap, ◌∙◌}
use Rattle.std.specs.Prelude.{flat_map}
use Rattle.opa_tree.specs.Levels.{attributes}
use Rattle.opa_rules.specs.Reviewing.Looking.{unused_at}
use Rattle.opa_rules.proofs.reviewing.SeenLaws.{one_attribute}
use Rattle.opa_rules.proofs.reviewing.attributes.push_all_unseen.Goals as goal

pub loop-number-preserved : goal.loop-number-preserved
loop-number-preserved c = one_attribute (unused_at c.args.base.now) c.loop-number.number c.args.findings.now c.loop-number.findings c.push_unseen.new.findings c.loop-number.invariant c.in_ok-push_unseen.ensures
