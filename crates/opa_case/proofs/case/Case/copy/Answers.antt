use Rattle.std.specs.Prelude.{length, unwrap_or}
use Rattle.std.specs.BTreeMap.{is_at}
use Rattle.std.specs.Map.{lookup}
use Rattle.std.specs.Ordering.{nat_cmp}
use Rattle.std.proofs.Common.{ap, sym, ◌∙◌}
use Rattle.opa_case.specs.Homes.{home_of, count_of}
use Rattle.opa_case.specs.Live.{container_of}
use Rattle.opa_case.specs.Order.{live_in}
use Rattle.opa_case.proofs.Whole.{whole_again}
use Rattle.opa_case.proofs.case.Case.copy.Goals as goal

pub invariant_of-result : goal.invariant_of-result
invariant_of-result c =
    let live = ap (live_in c.again-model.result) c.in_ok-lists.ensures ∙ c.again-model.ensures c.self.inside.lists in
    let was = c.self.invariant in (
      (λ i. ap (λ homes. home_of homes i) c.in_ok-living.ensures.homes ∙ was.0 i ∙ ap (λ l. container_of l i) (sym live)),
      (
        (λ e. ap (λ es. unwrap_or (lookup (is_at (nat_cmp e)) es) 0) c.in_ok-living.ensures.each ∙ was.1.0 e ∙ ap (count_of e) (sym live)),
        c.in_ok-living.ensures.total ∙ was.1.1 ∙ ap length (sym live),
      ),
      whole_again _ _ c.in_ok-lists.ensures c.in_ok-every.ensures c.in_ok-answers.ensures live was.2,
    )
