use Rattle.std.proofs.Common.{subst}
use Rattle.opa_verify.specs.Spelling.Reading.{IsShown, shown_text}
use Rattle.opa_verify.specs.Spelling.Spelling.{Reads}
use Rattle.opa_verify.proofs.spelling.Telling.{no_shown}
use Rattle.opa_verify.proofs.spelling.told.told_by.Goals as goal

pub returns-in-None : goal.returns-in-None
returns-in-None c = no_shown c.args.shown.now c.args.from.now c.requires (subst (λ o. Reads IsShown shown_text c.args.shown.now o) c.in-None.is c.in_ok-shown_in.ensures)
