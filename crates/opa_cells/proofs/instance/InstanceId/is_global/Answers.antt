use Rattle.std.proofs.Common.{ap, ◌∙◌, nat_eq, length}
use Rattle.opa_cells.proofs.Rowed.{global_test}
use Rattle.opa_cells.proofs.instance.InstanceId.is_global.Goals as goal

pub returns-then-self-eq0 : goal.returns-then-self-eq0
returns-then-self-eq0 c = ap (λ n. nat_eq (length n) 0) c.as_str.ensures ∙ global_test c.args.self.now c.if-self-eq0.true
