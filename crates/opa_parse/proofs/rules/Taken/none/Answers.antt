use Rattle.std.proofs.Common.{refl}
use Rattle.opa_parse.proofs.RuleLaws.{none_taken}
use Rattle.opa_parse.proofs.rules.Taken.none.Goals as goal

pub returns : goal.returns
returns c start e = none_taken _ start refl c.new.ensures refl e
