use Rattle.std.proofs.Common.{◌≡◌, ◌∙◌, ◌-◌, ◌==◌, ap, sym}
use Rattle.std.specs.List.{list_any}
use Rattle.opa_tree.specs.Scopes.{lineage}
use Rattle.opa_rulebase.proofs.checking.ScopeSteps.{lineage_step}
use Rattle.opa_rulebase.proofs.checking.scopes.is_above.Goals as goal

pub loop-at-preserved : goal.loop-at-preserved
loop-at-preserved c =
    c.loop-at.invariant ∙ lineage_step c.args.model.now c.loop-at.left c.loop-at.at c.args.wanted c.if-left-eq0.false c.if-at-eq0.false c.loop-at-test.true
    ∙ ap (λ p. list_any (λ j. j.0 == c.args.wanted.0) (lineage c.args.model.now (c.loop-at.left - 1) p)) (sym c.parent_of-at.ensures)
