use Rattle.std.proofs.Common.{ap, sym, ◌∙◌}
use Rattle.std.specs.Prelude.{Some}
use Rattle.std.specs.FinMap as map
use Rattle.opa_cases.proofs.name_map.NamedLaws.{got, taken}
use Rattle.opa_cases.proofs.name_map.map.Named.take.Goals as goal

pub returns-in_err-boxed-clause-value : goal.returns-in_err-boxed-clause-value
returns-in_err-boxed-clause-value g c =
    let name = c.args.name.now in
    c.from_residual.ensures ∙ c.in_err-boxed.ensures.value ∙ sym (got c.self.inside.entries.entries name) ∙ ap (λ m. map.get m name) c.self.view_is

pub returns-in_err-boxed-clause-rest : goal.returns-in_err-boxed-clause-rest
returns-in_err-boxed-clause-rest g c =
    let name = c.args.name.now in
    taken name c.self.inside.entries.entries c.remove.new.self.entries c.remove.ensures.updates.0 ∙ ap (λ m. map.remove m name) c.self.view_is

pub returns-clause-value : goal.returns-clause-value
returns-clause-value g c =
    let name = c.args.name.now in
    ap Some c.into_inner.ensures ∙ c.in_ok-boxed.ensures.value ∙ sym (got c.self.inside.entries.entries name) ∙ ap (λ m. map.get m name) c.self.view_is

pub returns-clause-rest : goal.returns-clause-rest
returns-clause-rest g c =
    let name = c.args.name.now in
    taken name c.self.inside.entries.entries c.remove.new.self.entries c.remove.ensures.updates.0 ∙ ap (λ m. map.remove m name) c.self.view_is
