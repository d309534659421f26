use Rattle.std.proofs.Common.{sym, true, false}
use Rattle.opa_case.proofs.Naming.{first_tells}
use Rattle.opa_case.proofs.list_faults.are_few_names.Goals as goal

pub returns-then-not-is_fresh : goal.returns-then-not-is_fresh
returns-then-not-is_fresh c =
    sym (first_tells c.args.names.now c.loop-name.rest.now c.in-Some.behind.now c.in-Some.name.now c.is_fresh.result false c.loop-name.invariant c.in-Some.ensures c.is_fresh.ensures c.if-not-is_fresh.true)

pub loop-name-preserved : goal.loop-name-preserved
loop-name-preserved c =
    first_tells c.args.names.now c.loop-name.rest.now c.in-Some.behind.now c.in-Some.name.now c.is_fresh.result true c.loop-name.invariant c.in-Some.ensures c.is_fresh.ensures c.if-not-is_fresh.false
