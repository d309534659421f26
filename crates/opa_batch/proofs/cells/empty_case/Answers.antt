use Rattle.std.proofs.Common.{subst, sym}
use Rattle.opa_case.specs.Cases.{CaseView}
use Rattle.opa_mean.specs.Rulebases.{IsOf}
use Rattle.opa_batch.proofs.cells.empty_case.Goals as goal

pub returns-clause-fits : goal.returns-clause-fits
returns-clause-fits c =
    let base = c.args.base.now in
    let form = c.attribute_count-count.ensures.form in
    subst (λ (v : CaseView). IsOf base v) (sym c.new.ensures) (record { is_model = form; fits = c.empty_fits.ensures base.model base.ruled form })
