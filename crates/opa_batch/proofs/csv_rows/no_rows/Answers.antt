use Rattle.std.proofs.Common.{refl}
use Rattle.opa_batch.proofs.csv_rows.no_rows.Goals as goal

pub returns : goal.returns
returns c =
    let from = c.from_writer.ensures in
    record { setup = from.cfg; between = from.fields; clean = from.wrote; held = rw (from.wtr, c.new.ensures.items, from.empty) refl }
