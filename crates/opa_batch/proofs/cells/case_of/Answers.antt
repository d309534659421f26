use Rattle.std.proofs.Common.{◌≡◌, length, rules}
use Rattle.csv.specs.Records.{fields_of}
use Rattle.opa_batch.proofs.CountLaws.{record_reaches}
use Rattle.opa_batch.proofs.cells.case_of.Goals as goal

pub returns-in-None-clause-reaches : goal.returns-in-None-clause-reaches
returns-in-None-clause-reaches c =
    let cells = fields_of c.args.row.now in
    let same : length cells ≡ length c.args.heads.now = search rules in
    record_reaches c.args.base.now c.args.heads.now cells c.empty_case-case.result c.take_cells.new.case same c.empty_case-case.ensures.none c.in-Ok.ensures.reaches
