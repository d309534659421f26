use Rattle.std.proofs.Common.{◌∙◌}
use Rattle.opa_case.proofs.Indexed.{row_gone}
use Rattle.opa_case.proofs.index.drop_in_row.Goals as goal

pub returns-then-has_no_source : goal.returns-then-has_no_source
returns-then-has_no_source c n j =
    row_gone c.drop_source.new.row.entries c.remove.new.self.entries c.args.name.now c.remove.ensures.updates.0 (c.has_no_source.ensures c.if-has_no_source.true) n j ∙ c.drop_source.ensures n j
