use Rattle.std.proofs.Common.{subst}
use Rattle.opa_text.specs.Spelled.{SaysNoNames}
use Rattle.opa_verify.proofs.spelling.Namely.{only_names, no_names}
use Rattle.opa_verify.proofs.spelling.names.known_in.Goals as goal

pub known_as-requires : goal.known_as-requires
known_as-requires c = only_names c.args.text.now c.in-Ok.names c.in-Ok.ensures.names

pub returns-in-Err-Value : goal.returns-in-Err-Value
returns-in-Err-Value c = no_names c.args.text.now (subst (SaysNoNames c.args.text.now) c.in-Err-Value.field-0-is c.in-Err-Value.ensures.fault)
