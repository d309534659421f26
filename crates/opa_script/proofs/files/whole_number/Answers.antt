use Rattle.std.proofs.Common.{sym, ap, ◌∙◌}
use Rattle.std.specs.Prelude.{Ok}
use Rattle.opa_script.proofs.Exits.{counted}
use Rattle.opa_script.proofs.files.whole_number.Goals as goal

pub returns-in_ok-size_of-in-Ok : goal.returns-in_ok-size_of-in-Ok
returns-in_ok-size_of-in-Ok c =
    counted c.whole_of.result c.args.token.now c.in_ok-size_of-in-Ok.field-0
    (sym c.in-Ok.ensures.value ∙ ap (λ n. Ok n) c.in_ok-size_of-in-Ok.ensures) c.whole_of.ensures
