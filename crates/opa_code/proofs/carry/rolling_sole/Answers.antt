use Rattle.std.proofs.Common.{map}
use Rattle.opa_line.proofs.Zipping.{ok_weaker}
use Rattle.opa_window.specs.Days.{day_value}
use Rattle.opa_code.specs.OverLines.Lines.{meaning_of}
use Rattle.opa_code.specs.Running.{sole}
use Rattle.opa_code.proofs.Standing.{rolling_same, stands_same}
use Rattle.opa_code.proofs.carry.rolling_sole.Goals as goal

pub returns : goal.returns
returns c =
    let x = c.sole_line.result.now in
    ok_weaker c.rolling_line.result _ _ (λ l h enclosing _. stands_same l _ _
    (rolling_same enclosing c.args.always c.args.days (day_value x) (sole (map meaning_of c.args.operands.now) enclosing) (c.sole_line.ensures enclosing)) h) c.rolling_line.ensures
