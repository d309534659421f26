use Rattle.std.proofs.Common.{sym, ap, ◌∙◌}
use Rattle.std.specs.Option.{option_copied_mut}
use Rattle.opa_case.proofs.Indexed.{index_without}
use Rattle.opa_case.proofs.index.take_sources.Goals as goal

pub returns-in-Some-clause-others : goal.returns-in-Some-clause-others
returns-in-Some-clause-others c =
    let at = sym c.get_mut.ensures.value ∙ ap option_copied_mut c.in-Some.is in
    index_without c.args.index.now.entries (c.get_mut.follows.lender c.remove.new.self).entries c.args.number c.args.name.now c.in-Some.row.now c.remove.new.self at (λ some. ((c.get_mut.follows.holds c.remove.new.self).3 some).0) c.remove.ensures.updates.0
