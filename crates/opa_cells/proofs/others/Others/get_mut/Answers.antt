use Rattle.std.specs.Prelude.{IsSome}
use Rattle.std.proofs.Common.{ap, subst, ◌∙◌}
use Rattle.std.specs.FinMap as map
use Rattle.opa_cells.specs.Instances.{instance_cmp}
use Rattle.opa_cells.proofs.Inner.{got_by, cells_put}
use Rattle.opa_cells.proofs.Lends.{lent, some_lent}
use Rattle.opa_cells.proofs.others.Others.get_mut.Goals as goal

pub returns : goal.returns
returns g c =
    let es = c.self.inside.cells.entries in (
      lent c.get_mut.result _ (λ w. map.insert c.args.self.now c.args.inst.now w) _ _
          (λ some w. cells_put es (c.get_mut.follows.lender w).entries c.args.inst.now w (((c.get_mut.follows.holds w).3 (subst (λ o. IsSome o) c.get_mut.ensures.value (some_lent c.get_mut.result some))).0)
          ∙ ap (λ m. map.insert m c.args.inst.now w) c.self.view_is)
          (λ none. ap (λ m. map.from_entries {R = instance_cmp} m.entries) c.get_mut.follows.holds-at-none ∙ c.self.view_is),
      record { writes_back = tt; value = c.get_mut.ensures.value ∙ got_by es c.args.inst.now ∙ ap (λ m. map.get m c.args.inst.now) c.self.view_is },
    )
