use Rattle.std.proofs.Common.{subst}
use Rattle.opa_verify.specs.Spelling.Reading.{IsNumber, number_shown}
use Rattle.opa_verify.specs.Spelling.Spelling.{Reads}
use Rattle.opa_verify.proofs.spelling.Valued.{no_value}
use Rattle.opa_verify.proofs.spelling.values.number_value.Goals as goal

pub returns-in-None : goal.returns-in-None
returns-in-None c = no_value c.args.text.now c.requires.word c.requires.day c.requires.words (subst (λ o. Reads IsNumber number_shown c.args.text.now o) c.in-None.is c.in_ok-number_in.ensures)
