use Rattle.std.proofs.lemmas.Result.{on_ok_weaker}
use Rattle.opa_need.specs.Steps.{part_needs}
use Rattle.opa_need.proofs.OpeningLaws.{on_a_date}
use Rattle.opa_need.proofs.spans.add_on.Goals as goal

pub returns-then-day-lt-DAYS : goal.returns-then-day-lt-DAYS
returns-then-day-lt-DAYS g c =
    let r = g.H.Held.rules c.args.held.now in let held = g.H.Held.held c.args.held.now in
    on_ok_weaker c.add_part.result (λ h. on_a_date r held (part_needs r held c.args.x.now c.args.enclosing.now) c.args.date.now c.in-Some.day _ _ c.in-Some.ensures h) c.add_part.ensures
