use Rattle.std.specs.FinMap.{FinMap}
use Rattle.std.proofs.Common.{sym, subst}
use Rattle.opa_cells.specs.Keys.{cell_cmp}
use Rattle.opa_case.specs.Cases.{Answer}
use Rattle.opa_case.specs.Order.{live_in}
use Rattle.opa_case.specs.Whole.{IsWhole}
use Rattle.opa_case.proofs.Whole.{withdrawn_whole}
use Rattle.opa_case.proofs.case.Case.drop_answer.Goals as goal

pub invariant_of-self : goal.invariant_of-self
invariant_of-self c = (
  c.self.invariant.0,
  c.self.invariant.1,
  subst (λ (m : FinMap cell_cmp Answer). IsWhole (record { lists = c.self.inside.lists; every = c.self.inside.every; answers = m; live = live_in c.self.inside.model c.self.inside.lists }))
      (sym c.remove.ensures) (withdrawn_whole _ c.args.attr c.args.inst.now c.self.invariant.2),
)
