use Rattle.std.proofs.Common.{sym, subst}
use Rattle.opa_mean.specs.Derivations.{MayDerive}
use Rattle.opa_mean.specs.Given.{base_of, facts_of}
use Rattle.opa_mean.specs.Mean.{look_of}
use Rattle.opa_tree.specs.declared.rulebase.Rulebase.{Rulebase}
use Rattle.tests_session.proofs.meaning.Deriving.{may_derive}
use Rattle.tests_session.proofs.meaning.carried.rule_line.Goals as goal

pub evaluate-requires : goal.evaluate-requires
evaluate-requires g c =
    subst (λ (b : Rulebase). MayDerive (base_of b) (look_of (facts_of c.args.case.now) (facts_of c.args.case.now).answer) c.args.attr c.args.inst.now) (sym c.requires.code)
    (may_derive c.args.base.now c.args.case.now c.requires.fits c.args.attr c.args.inst.now c.requires.slot)
