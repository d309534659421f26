use Rattle.std.proofs.Common.{None, sym, subst}
use Rattle.opa_rules.specs.Faults.Unread.{IsBlockTold}
use Rattle.opa_rules.proofs.faults.unread.block_told.Goals as goal

pub returns-in-None : goal.returns-in-None
returns-in-None c = subst (λ ls. IsBlockTold ls None) (sym c.in-None.ensures) IsBlockTold.none
