use Rattle.std.proofs.Common.{ap, ◌∙◌}
use Rattle.opa_case.specs.Turns.{names_without}
use Rattle.opa_case.proofs.Naming.{shared_passed}
use Rattle.opa_case.proofs.names.behind_shared.Goals as goal

pub returns : goal.returns
returns c =
    let names = c.args.names.now in
    let others = c.args.others.now in
    ap (λ ns. names_without ns others) c.split_at.ensures.back ∙ shared_passed names others c.shared.result c.shared.ensures.same
