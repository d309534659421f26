use Rattle.opa_rulebase.proofs.checking.MarkLaws.{marks_more}
use Rattle.opa_rulebase.proofs.checking.faults.is_second.Goals as goal

pub returns-clause-marked : goal.returns-clause-marked
returns-clause-marked c count before are = marks_more count before c.args.rule.now c.args.marks.now.items are
