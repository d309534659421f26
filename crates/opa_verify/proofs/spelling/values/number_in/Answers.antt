use Rattle.opa_verify.proofs.spelling.Valued.{no_number}
use Rattle.opa_verify.proofs.spelling.values.number_in.Goals as goal

pub returns-in-Err : goal.returns-in-Err
returns-in-Err c = no_number c.args.text.now c.in-Err.field-0 c.in-Err.ensures.value
