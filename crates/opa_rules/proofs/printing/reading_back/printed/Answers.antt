use Rattle.std.proofs.Common.{subst}
use Rattle.opa_rules.specs.Printing.Prints.{IsPrintOf}
use Rattle.opa_rules.proofs.printing.reading_back.printed.Goals as goal

pub returns-then-branch : goal.returns-then-branch
returns-then-branch c = subst (IsPrintOf c.args.name.now c.args.base.now) c.as_slice.ensures.value (c.in_ok-reads_back.ensures c.if-branch.true)
