use Rattle.std.proofs.lemmas.Result.{on_ok_weaker}
use Rattle.opa_report.proofs.kept.note.Goals as goal

pub returns : goal.returns
returns c = on_ok_weaker c.put.result (λ h s l found known before. (h s l found before.0 (c.in_ok-made.ensures s l found known), before.1)) c.put.ensures
