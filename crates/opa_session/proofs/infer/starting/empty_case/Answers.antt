use Rattle.std.proofs.Common.{subst, sym}
use Rattle.opa_case.specs.Cases.{CaseView}
use Rattle.opa_mean.specs.Rulebases.{IsOf}
use Rattle.opa_session.proofs.infer.starting.empty_case.Goals as goal

pub returns-clause-fits : goal.returns-clause-fits
returns-clause-fits c =
    subst (λ (v : CaseView). IsOf c.args.base.now v) (sym c.new.ensures)
    (record { is_model = c.attribute_count-count.ensures.form; fits = c.empty_fits.ensures c.args.base.now.model c.args.base.now.ruled c.attribute_count-count.ensures.form })
