use Rattle.opa_line.proofs.Zipping.{ok_weaker}
use Rattle.opa_line.proofs.line.Line.map.Goals as goal

pub returns-in_ok-f-in-Some : goal.returns-in_ok-f-in-Some
returns-in_ok-f-in-Some g c =
    ok_weaker c.constant.result _ _ (λ l stands d lt. (c.in_ok-f-in-Some.field-0, record { first = c.in-Some.value; left = c.in-Some.ensures d; says = c.in_ok-f-in-Some.ensures }, stands d lt)) c.constant.ensures.everywhere
