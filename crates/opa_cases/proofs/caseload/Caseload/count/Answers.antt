use Rattle.std.proofs.Common.{ap, ◌∙◌, ◌+◌}
use Rattle.opa_cases.proofs.OpenLaws.{count_some}
use Rattle.opa_cases.proofs.caseload.Caseload.count.Goals as goal

pub returns-in-Some : goal.returns-in-Some
returns-in-Some g c =
    let self = c.args.self.now in
    let current = c.in-Some.field-0 in
    ap (λ n. n + 1) c.len-in-Some.ensures.len ∙ count_some self.session self.current current self.others c.in-Some.is (self.apart current c.in-Some.is)
