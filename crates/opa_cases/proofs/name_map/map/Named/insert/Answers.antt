use Rattle.std.proofs.Common.{ap, ◌∙◌}
use Rattle.std.specs.FinMap as map
use Rattle.opa_cases.proofs.name_map.NamedLaws.{inserted}
use Rattle.opa_cases.proofs.name_map.map.Named.insert.Goals as goal

pub returns-in-Ok-clause-ok : goal.returns-in-Ok-clause-ok
returns-in-Ok-clause-ok g c =
    let boxed = c.in_ok-boxed.boxed in
    inserted c.args.name boxed c.self.inside.entries.entries c.insert.new.self.entries c.in-Ok.ensures.updates.0
    ∙ ap (λ m. map.insert m c.args.name boxed) c.self.view_is
    ∙ ap (map.insert c.args.self.now c.args.name) c.in_ok-boxed.ensures
