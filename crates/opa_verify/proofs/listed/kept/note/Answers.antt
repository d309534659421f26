use Rattle.std.proofs.lemmas.Result.{on_ok_weaker}
use Rattle.opa_verify.proofs.listed.kept.note.Goals as goal

pub returns : goal.returns
returns c = on_ok_weaker c.put.result (λ h s k stands known. h s k known (c.in_ok-made.ensures s k stands)) c.put.ensures
