use Rattle.std.proofs.Common.{◌∙◌, arith}
use Rattle.std.proofs.lemmas.Result.{on_ok_weaker}
use Rattle.opa_code.proofs.over_lines.Adding.{becomes_first, same_at, still_first}
use Rattle.opa_code.proofs.over_lines.items.keep_first_value.Goals as goal

pub returns-in_ok-constant : goal.returns-in_ok-constant
returns-in_ok-constant c =
    let line = c.in_ok-constant.field-0 in
    on_ok_weaker c.push.result (λ e. becomes_first (λ d. c.args.value.now) c.args.first.now _ line (omega arith) e (λ d lt. same_at line _ c.in_ok-constant.ensures d lt ∙ c.in_ok-copy.ensures)) c.push.ensures.ok

pub returns-else-len-eq0 : goal.returns-else-len-eq0
returns-else-len-eq0 c = still_first (λ d. c.args.value.now) c.args.first.now (omega arith)
