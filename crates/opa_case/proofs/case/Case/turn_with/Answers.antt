use Rattle.std.specs.FinMap.{insert}
use Rattle.std.proofs.Common.{ap, sym, subst, ◌∙◌, ◌≡◌}
use Rattle.opa_case.specs.Shapes.{shape_of}
use Rattle.opa_case.specs.Live.{Population, live_of}
use Rattle.opa_case.specs.Cases.{CaseView, stored}
use Rattle.opa_case.specs.Homes.{AreCounts}
use Rattle.opa_case.specs.Turns.{Turns, leaving, coming}
use Rattle.opa_case.proofs.Shaped.{shape_is}
use Rattle.opa_case.proofs.Turned.{counts_then}
use Rattle.opa_case.proofs.Turning.{set_turns}
use Rattle.opa_case.proofs.case.Case.turn_with.Goals as goal

pub returns-clause-turns : goal.returns-clause-turns
returns-clause-turns c =
    let s = shape_of c.args.model.now in
    let v = c.args.self.now in
    let r = c.args.rel in
    let i = c.args.inst.now in
    let names = c.args.names.now in
    let next : Population = live_of s (stored (insert v.lists (r.0, i) names)) in
    let gone : c.in_ok-turn.turn.gone.items ≡ leaving s (stored v.lists) r i names = c.in_ok-turn.ensures.gone ∙ ap (λ (w : CaseView). leaving s (stored w.lists) r i c.as_slice.result.now) c.self.view_is ∙ ap (leaving s (stored v.lists) r i) c.as_slice.ensures in
    let come : c.in_ok-turn.turn.come.items ≡ coming s (stored v.lists) r i names = c.in_ok-turn.ensures.come ∙ ap (λ (w : CaseView). coming s (stored w.lists) r i c.as_slice.result.now) c.self.view_is ∙ ap (coming s (stored v.lists) r i) c.as_slice.ensures in
    subst (λ (xs : Population). Turns v.live next xs c.in_ok-turn.turn.come.items i) (sym gone)
    (subst (λ (xs : Population). Turns v.live next (leaving s (stored v.lists) r i names) xs i) (sym come)
    (set_turns s c.args.ruled.now (shape_is c.args.model.now c.requires.form) v r i names c.requires.contains c.requires.fits c.requires.free))

pub returns-clause-counts : goal.returns-clause-counts
returns-clause-counts c =
    counts_then c.args.self.now.live _ _ _ c.args.inst.now (returns-clause-turns c) c.self.inside.living.counts c.in_ok-turn.turn.counts
    (subst (AreCounts c.self.inside.living.counts) (ap (λ (w : CaseView). w.live) c.self.view_is) c.self.invariant.1)
    c.in_ok-turn.ensures.counts
