use Rattle.std.proofs.Common.{sym, subst}
use Rattle.opa_line.proofs.Zipping.{ok_weaker}
use Rattle.opa_value.specs.Below.{IsBelow}
use Rattle.opa_mean.specs.Given.{base_of, facts_of}
use Rattle.opa_mean.specs.Mean.{mean}
use Rattle.opa_mean.proofs.LawsOver.{monotone_holds}
use Rattle.opa_mean.proofs.determine.value_on.Goals as goal

pub returns-clause-monotone : goal.returns-clause-monotone
returns-clause-monotone c =
    ok_weaker c.fresh_value.result _ _ (λ v e free more h.
    subst (λ w. IsBelow w (mean (base_of c.args.base.now) (facts_of more) c.args.attr c.args.inst.now c.args.day)) (sym e)
    (monotone_holds c.args.base.now c.args.case.now more h c.args.attr c.args.inst.now c.args.day free c.requires.live)) c.fresh_value.ensures
