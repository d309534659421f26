use Rattle.opa_case.proofs.Fewer.{few_known}
use Rattle.opa_case.proofs.changed.ListedLists.are_fewer.Goals as goal

pub returns : goal.returns
returns c h = few_known c.args.self.now c.args.rel c.args.count c.len_of.result c.len_of.ensures h
