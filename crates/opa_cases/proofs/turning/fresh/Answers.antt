use Rattle.opa_cases.proofs.FitLaws.{fresh_fits}
use Rattle.opa_cases.proofs.turning.fresh.Goals as goal

pub returns-clause-fits : goal.returns-clause-fits
returns-clause-fits c = fresh_fits c.args.base.now c.new.result c.new-2.result c.empty_fits.ensures c.attribute_count-count.ensures.form c.new.ensures c.new-2.ensures
