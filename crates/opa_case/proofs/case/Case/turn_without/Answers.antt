use Rattle.std.specs.Prelude.{[]}
use Rattle.std.specs.FinMap.{remove}
use Rattle.std.proofs.Common.{ap, sym, subst, ◌∙◌, ◌≡◌}
use Rattle.opa_case.specs.Shapes.{shape_of}
use Rattle.opa_case.specs.Live.{Population, live_of}
use Rattle.opa_case.specs.Cases.{CaseView, stored}
use Rattle.opa_case.specs.Homes.{AreCounts, AreCountsThen}
use Rattle.opa_case.specs.Turns.{Turns, leaving}
use Rattle.opa_case.proofs.Shaped.{shape_is}
use Rattle.opa_case.proofs.Turned.{counts_then}
use Rattle.opa_case.proofs.Turning.{forget_turns}
use Rattle.opa_case.proofs.case.Case.turn_without.Goals as goal

pub returns-clause-turns : goal.returns-clause-turns
returns-clause-turns c =
    let s = shape_of c.args.model.now in
    let v = c.args.self.now in
    let r = c.args.rel in
    let i = c.args.inst.now in
    let next : Population = live_of s (stored (remove v.lists (r.0, i))) in
    let gone : c.in_ok-turn.turn.gone.items ≡ leaving s (stored v.lists) r i [] = c.in_ok-turn.ensures.gone ∙ ap (λ (w : CaseView). leaving s (stored w.lists) r i []) c.self.view_is in
    subst (λ (xs : Population). Turns v.live next xs [] i) (sym gone)
    (forget_turns s c.args.ruled.now (shape_is c.args.model.now c.requires.form) v r i c.requires.contains c.requires.fits c.requires.placed)

pub returns-clause-counts : goal.returns-clause-counts
returns-clause-counts c =
    counts_then c.args.self.now.live _ _ _ c.args.inst.now (returns-clause-turns c) c.self.inside.living.counts c.in_ok-turn.turn.counts
    (subst (AreCounts c.self.inside.living.counts) (ap (λ (w : CaseView). w.live) c.self.view_is) c.self.invariant.1)
    (subst (λ (xs : Population). AreCountsThen c.self.inside.living.counts c.in_ok-turn.turn.counts xs c.in_ok-turn.turn.gone.items) c.in_ok-turn.ensures.come c.in_ok-turn.ensures.counts)
