use Rattle.std.proofs.Common.{Some, ap, ◌∙◌}
use Rattle.opa_value.specs.Fit.{fit_of}
use Rattle.opa_verify.specs.Listed.Shades.{mapped}
use Rattle.opa_verify.proofs.listed.Walking.{told}
use Rattle.opa_verify.proofs.listed.holding.concluded_line.Goals as goal

pub returns : goal.returns
returns g c = λ d lt. c.in_ok-line.ensures d lt ∙ ap (λ h. Some (mapped (fit_of c.args.money) h)) (told c.in_ok-seen.seen _ c.in_ok-seen.ensures d lt)
