use Rattle.opa_need.proofs.Steadiness.{stay_on_line}
use Rattle.opa_need.proofs.stays.stay_on.Goals as goal

pub returns : goal.returns
returns c = stay_on_line c.args.line.now c.args.day c.at.result.now c.in_ok-value.value c.until.result c.segments-form.ensures.form c.requires c.at.ensures c.in_ok-value.ensures c.until.ensures
