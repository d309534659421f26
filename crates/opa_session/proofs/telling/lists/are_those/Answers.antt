use Rattle.std.proofs.Common.{sym, ◌∙◌, ap, Some}
use Rattle.std.specs.Option.{option_copied}
use Rattle.opa_mean.specs.Sameness.{same_names}
use Rattle.opa_session.proofs.telling.Sames.{names_tested}
use Rattle.opa_session.proofs.telling.lists.are_those.Goals as goal

pub returns-in-Some : goal.returns-in-Some
returns-in-Some c = names_tested c.same.result c.args.first.now c.in-Some.second.now c.same.ensures ∙ ap (λ o. same_names (Some c.args.first.now) (option_copied o)) (sym c.in-Some.is)
