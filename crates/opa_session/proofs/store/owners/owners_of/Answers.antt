use Rattle.std.proofs.Common.{◌∙◌, ◌++◌, ◌∷◌, [], ap, cond}
use Rattle.std.specs.Prelude.{◌==◌}
use Rattle.opa_case.specs.Shapes.{shape_of}
use Rattle.opa_session.specs.Store.Owners.{owned_in}
use Rattle.opa_session.proofs.store.Owning.{all_of, all_owned, next_owned}
use Rattle.opa_session.proofs.store.owners.owners_of.Goals as goal

pub loop-rule-preserved : goal.loop-rule-preserved
loop-rule-preserved c e =
    next_owned (shape_of c.args.base.now.model) c.as_slice-rules.result.now c.loop-rule.rule-index c.rule-item.result e (owned_in c.loop-rule.owners e) (owned_in c.add.new.self e) c.loop-rule-test.true c.rule-item.is (c.loop-rule.invariant e) (c.in_ok-add.ensures e ∙ ap (λ n. owned_in c.loop-rule.owners e ++ cond (n == e) (c.rule-item.result.attr ∷ []) []) c.owner_of.ensures)

pub returns : goal.returns
returns c e = all_owned (shape_of c.args.base.now.model) c.as_slice-rules.result.now c.loop-rule.rule-index e (owned_in c.loop-rule.owners e) c.loop-rule-test.false (c.loop-rule.invariant e) ∙ ap (λ rules. all_of (shape_of c.args.base.now.model) e rules) c.as_slice-rules.ensures
