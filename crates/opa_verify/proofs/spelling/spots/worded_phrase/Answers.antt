use Rattle.std.proofs.Common.{subst}
use Rattle.std.proofs.Common.{length}
use Rattle.std.specs.Str.{chars}
use Rattle.opa_words.specs.Cuts.{IsCause}
use Rattle.opa_verify.proofs.spelling.Phrased.{stuck_isnt}
use Rattle.opa_verify.proofs.spelling.spots.worded_phrase.Goals as goal

pub returns-in-Err-Place : goal.returns-in-Err-Place
returns-in-Err-Place c = stuck_isnt c.args.text.now c.in-Err-Place.field-0-0 (subst (IsCause (length c.args.text.now) (chars c.args.text.now)) c.in-Err-Place.field-0-is c.in-Err-Place.ensures.fault)
