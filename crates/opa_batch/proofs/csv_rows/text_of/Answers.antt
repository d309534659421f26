use Rattle.std.specs.Prelude.{Some}
use Rattle.opa_batch.proofs.WriterLaws.{text_is_kept}
use Rattle.opa_batch.proofs.csv_rows.text_of.Goals as goal

pub returns-in-Ok : goal.returns-in-Ok
returns-in-Ok c = λ text h. text_is_kept (λ v. Some v.items) c.args.rows text c.in-Ok.text.items c.in-Ok.ensures.ok h
