use Rattle.std.proofs.Common.{sym, ◌∙◌}
use Rattle.opa_case.proofs.SameLists.{one_cell}
use Rattle.opa_case.proofs.comparing.is_cell.Goals as goal

pub returns : goal.returns
returns c = λ t. one_cell c.args.cell.now c.args.other.now c.if-number-its.false (sym c.equals.ensures ∙ c.if-not-equals.false) (c.same.ensures.0 t)
