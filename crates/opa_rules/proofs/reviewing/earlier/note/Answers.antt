use Rattle.std.proofs.Common.{sym, ◌∙◌}
use Rattle.std.specs.HashMap.{get}
use Rattle.opa_rules.specs.Reviewing.Trees.{same_tree}
use Rattle.opa_rules.proofs.reviewing.EarlierLaws.{noted_before, noted_now}
use Rattle.opa_rules.proofs.reviewing.earlier.note.Goals as goal

pub returns-in_ok-insert : goal.returns-in_ok-insert
returns-in_ok-insert c =
    noted_now c.args.condition c.args.place (get same_tree c.args.places.now) (get same_tree c.insert.new.self) (sym c.contains_key.ensures ∙ c.if-not-contains_key.true) c.in_ok-insert.ensures.updates.0

pub returns-else-not-contains_key : goal.returns-else-not-contains_key
returns-else-not-contains_key c =
    noted_before c.args.condition c.args.place (get same_tree c.args.places.now) (sym c.contains_key.ensures ∙ c.if-not-contains_key.false)
