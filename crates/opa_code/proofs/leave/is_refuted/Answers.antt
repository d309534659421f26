use Rattle.std.proofs.Common.{sym, ap, ◌∙◌}
use Rattle.opa_window.specs.Days.{day_value}
use Rattle.opa_code.proofs.leave.is_refuted.Goals as goal

pub returns-in-Some : goal.returns-in-Some
returns-in-Some c t = record { before = c.in-Some.parts.1.now; newest = c.in-Some.parts.0.now; is = c.in-Some.ensures; false_always = λ d. ap (λ l. day_value l d) (sym c.line.ensures) ∙ c.is_always.ensures t d }
