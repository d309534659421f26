use Rattle.std.proofs.Common.{map, sym, subst}
use Rattle.opa_code.specs.OverLines.Lines.{Has, meaning_of}
use Rattle.opa_code.specs.Running.{node_meaning}
use Rattle.opa_code.proofs.Standing.{has_made}
use Rattle.opa_code.proofs.carry.other_operand.Goals as goal

pub returns-in-Const : goal.returns-in-Const
returns-in-Const c l enclosing none ok =
    subst (λ n. Has (node_meaning l n (map meaning_of c.args.operands.now) enclosing) c.seen.result) (sym c.in-Const.is)
    (has_made c.line.result.now c.seen.result _ c.seen.ensures c.line.ensures)

pub returns-in_ok-line-in_default : goal.returns-in_ok-line-in_default
returns-in_ok-line-in_default c l enclosing none ok = has_made c.in_ok-line-in_default.line c.made.result _ c.made.ensures (c.in_ok-line-in_default.ensures l enclosing none ok)
