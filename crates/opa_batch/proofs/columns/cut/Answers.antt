use Rattle.std.proofs.Common.{length, subst}
use Rattle.std.specs.Str.{chars}
use Rattle.opa_words.specs.Cuts.{IsCause}
use Rattle.opa_words.proofs.OneCut.{cut_or_stuck_holds}
use Rattle.opa_batch.proofs.columns.cut.Goals as goal

pub returns-in-Err-Place-clause-fault : goal.returns-in-Err-Place-clause-fault
returns-in-Err-Place-clause-fault c = λ ps h. cut_or_stuck_holds (length c.args.text.now) (chars c.args.text.now) h.0 c.in-Err-Place.field-0-0 h.1 (subst (IsCause (length c.args.text.now) (chars c.args.text.now)) c.in-Err-Place.field-0-is c.in-Err-Place.ensures.fault)
