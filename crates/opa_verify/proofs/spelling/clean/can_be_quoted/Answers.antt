use Rattle.opa_verify.proofs.spelling.Cleanness.{clean_decides}
use Rattle.opa_verify.proofs.spelling.clean.can_be_quoted.Goals as goal

pub returns : goal.returns
returns c = clean_decides c.args.text.now c.as_bytes.result.now c.has_control.result c.utf8.text c.as_bytes.ensures.value c.has_control.ensures
