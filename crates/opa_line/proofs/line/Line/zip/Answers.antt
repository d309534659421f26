use Rattle.opa_line.proofs.Zipping.{ok_weaker}
use Rattle.opa_line.proofs.line.Line.zip.Goals as goal

pub returns-in_ok-f-in-Some-Some : goal.returns-in_ok-f-in-Some-Some
returns-in_ok-f-in-Some-Some g c =
    let x = c.in-Some-Some in
    ok_weaker c.constant.result _ _ (λ l stands d lt. (c.in_ok-f-in-Some-Some.field-0, record { first = x.x; second = x.y; left = x.ensures d; right = x.ensures' d; says = c.in_ok-f-in-Some-Some.ensures }, stands d lt)) c.constant.ensures.everywhere
