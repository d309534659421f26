use Rattle.std.proofs.Common.{is_some, ap, sym, ◌∙◌}
use Rattle.std.specs.FinMap as map
use Rattle.opa_cases.proofs.name_map.NamedLaws.{got}
use Rattle.opa_cases.proofs.name_map.map.Named.has.Goals as goal

pub returns : goal.returns
returns g c =
    let name = c.args.name.now in
    c.contains_key.ensures ∙ ap is_some (sym (got c.self.inside.entries.entries name)) ∙ ap (λ m. is_some (map.get m name)) c.self.view_is
