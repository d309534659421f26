use Rattle.std.proofs.Common.{ap, sym, ◌∙◌}
use Rattle.opa_case.specs.Cases.{are_names}
use Rattle.opa_case.proofs.Naming.{joined_names, names_before}
use Rattle.opa_case.proofs.list_faults.are_names.Goals as goal

pub returns-then-rest-lt-MANY : goal.returns-then-rest-lt-MANY
returns-then-rest-lt-MANY c =
    let front = c.split_at.result.0.now in
    let rest = c.split_at.result.1.now in
    c.are_behind.ensures
    ∙ joined_names front rest (ap are_names (c.split_at.ensures.front ∙ c.shared.ensures.same) ∙ names_before c.shared.result c.args.known.now c.requires)
    ∙ ap are_names (sym c.split_at.ensures.by_index.0)
