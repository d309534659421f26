use Rattle.std.proofs.Common.{true}
use Rattle.opa_case.proofs.Indexed.{index_set}
use Rattle.opa_case.proofs.index.add_row.Goals as goal

pub returns-in-Ok-clause-ok : goal.returns-in-Ok-clause-ok
returns-in-Ok-clause-ok c =
    index_set c.args.index.now.entries c.insert.new.self.entries c.args.number c.args.name.now c.args.inst.now true c.add_in_row.new.row c.in-Ok.ensures.updates.0 c.requires c.new-row.result.entries c.new-row.ensures.empty c.in_ok-add_in_row.ensures.ok
