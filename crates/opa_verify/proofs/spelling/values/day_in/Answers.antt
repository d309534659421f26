use Rattle.opa_verify.proofs.spelling.Valued.{no_day}
use Rattle.opa_verify.proofs.spelling.values.day_in.Goals as goal

pub returns-in-Err : goal.returns-in-Err
returns-in-Err c = no_day c.args.text.now c.in-Err.field-0 c.in-Err.ensures.value
