use Rattle.std.proofs.Common.{◌∙◌, ap, subst, length}
use Rattle.std.specs.HashMap.{get}
use Rattle.opa_rules.specs.Reviewing.Earlier.{IsNoted, found_or}
use Rattle.opa_rules.specs.Reviewing.Trees.{same_tree}
use Rattle.opa_rules.proofs.reviewing.EarlierLaws.{found, known_more}
use Rattle.opa_rules.proofs.reviewing.earlier.Earlier.next.Goals as goal

pub returns-clause-found : goal.returns-clause-found
returns-clause-found c =
    found c.args.rows.now c.args.row.now.cond (get same_tree c.args.self.now.places) c.args.self.now.always c.copied-alike.result c.lesser-first.result c.requires
    (c.copied-alike.ensures ∙ c.get.ensures.value ∙ ap (get same_tree c.args.self.now.places) c.new-condition.ensures) c.lesser-first.ensures

pub returns-clause-known : goal.returns-clause-known
returns-clause-known c =
    known_more c.args.rows.now c.args.row.now (get same_tree c.args.self.now.places) (get same_tree c.note.new.places) c.args.self.now.always c.found_or-self.result c.requires
    (subst (λ x. IsNoted x (length c.args.rows.now) (get same_tree c.args.self.now.places) (get same_tree c.note.new.places)) c.new-condition.ensures c.in_ok-note.ensures)
    (c.found_or-self.ensures ∙ ap (λ b. found_or c.args.self.now.always b (length c.args.rows.now)) c.is_always.ensures)
