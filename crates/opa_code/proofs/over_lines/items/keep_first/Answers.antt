use Rattle.std.proofs.Common.{arith}
use Rattle.std.proofs.lemmas.Result.{on_ok_weaker}
use Rattle.opa_window.specs.Days.{day_value}
use Rattle.opa_code.proofs.over_lines.Adding.{becomes_first, still_first}
use Rattle.opa_code.proofs.over_lines.items.keep_first.Goals as goal

pub returns-in_ok-copy : goal.returns-in_ok-copy
returns-in_ok-copy c =
    on_ok_weaker c.push.result (λ e. becomes_first (day_value c.args.operand.now) c.args.first.now _ c.in_ok-copy.field-0 (omega arith) e c.in_ok-copy.ensures) c.push.ensures.ok

pub returns-else-len-eq0 : goal.returns-else-len-eq0
returns-else-len-eq0 c = still_first (day_value c.args.operand.now) c.args.first.now (omega arith)
