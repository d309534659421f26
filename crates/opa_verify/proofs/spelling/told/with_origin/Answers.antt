use Rattle.std.proofs.Common.{subst}
use Rattle.opa_verify.specs.Spelling.Printed.{origin_text}
use Rattle.opa_verify.specs.Spelling.Spelling.{IsOrigin, Reads}
use Rattle.opa_verify.proofs.spelling.Telling.{no_source}
use Rattle.opa_verify.proofs.spelling.told.with_origin.Goals as goal

pub returns-in-None : goal.returns-in-None
returns-in-None c = no_source c.args.kind c.args.value c.args.from.now c.requires (subst (λ o. Reads IsOrigin origin_text c.args.from.now o) c.in-None.is c.in_ok-source_in.ensures)
