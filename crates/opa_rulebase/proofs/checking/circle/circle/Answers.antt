use Rattle.std.proofs.Common.{◌≡◌, ◌∙◌, ◌<◌, ap, sym, subst, length, arith, Bool, true, false, List, [], ◌∷◌, ◌++◌}
use Rattle.std.specs.Prelude.{Some, None, slice_get, slice_set}
use Rattle.std.proofs.lemmas.Option.{slice_get-get_or, slice_get_within}
use Rattle.opa_model.specs.declared.ids.AttrId.{AttrId}
use Rattle.opa_rulebase.specs.Checking.Circles.{Circles, from_visit}
use Rattle.opa_rulebase.specs.Checking.Settled.{IsOpen, BeginsOpen}
use Rattle.opa_rulebase.proofs.checking.WalkLaws.{Walks, unvisited_count, fewer, walks_on, comes_again, begins_open}
use Rattle.opa_rulebase.proofs.checking.circle.circle.Goals as goal

pub loop-visited-smaller : goal.loop-visited-smaller
loop-visited-smaller c =
    let w = c.loop-visited.invariant in let visited = c.loop-visited.visited.items in let a = c.loop-visited.at in
    let lt : a.0 < length visited = (let n : a.0 < length c.args.ranks.now = slice_get_within c.args.ranks.now a.0 None w.is_open in omega (arith, n, w.for_each)) in
    let new : slice_get visited a.0 ≡ Some false = slice_get-get_or visited a.0 c.index.result.now lt ∙ ap Some (sym c.index.ensures ∙ c.loop-visited-test.true) in
    fewer visited a.0 new

pub loop-visited-preserved : goal.loop-visited-preserved
loop-visited-preserved c =
    let w = c.loop-visited.invariant in let visited = c.loop-visited.visited.items in let a = c.loop-visited.at in
    let lt : a.0 < length visited = (let n : a.0 < length c.args.ranks.now = slice_get_within c.args.ranks.now a.0 None w.is_open in omega (arith, n, w.for_each)) in
    let new : slice_get visited a.0 ≡ Some false = slice_get-get_or visited a.0 c.index.result.now lt ∙ ap Some (sym c.index.ensures ∙ c.loop-visited-test.true) in
    subst (λ (walk : List AttrId). Walks c.args.rules.now c.args.ranks.now c.args.start walk c.next_open-at.result (slice_set visited a.0 true)) (sym c.in_ok-push.ensures.ok)
    (walks_on c.args.rules.now c.args.ranks.now c.args.start c.loop-visited.walk a visited w c.next_open-at.result new c.next_open-at.ensures.next c.next_open-at.ensures.is_open)

pub returns-clause-circle : goal.returns-clause-circle
returns-clause-circle c =
    let w = c.loop-visited.invariant in let visited = c.loop-visited.visited.items in let a = c.loop-visited.at in
    let lt : a.0 < length visited = (let n : a.0 < length c.args.ranks.now = slice_get_within c.args.ranks.now a.0 None w.is_open in omega (arith, n, w.for_each)) in
    let old : slice_get visited a.0 ≡ Some true = slice_get-get_or visited a.0 c.index.result.now lt ∙ ap Some (sym c.index.ensures ∙ c.loop-visited-test.false) in
    let is : c.in_ok-circle.circle ≡ from_visit a c.loop-visited.walk = c.in_ok-circle.ensures ∙ ap (from_visit a) c.as_slice.ensures in
    subst (λ (circle : List AttrId). Circles c.args.rules.now [] c.args.start circle) (sym is) (comes_again c.args.rules.now c.args.ranks.now c.args.start c.loop-visited.walk a visited w old)

pub returns-clause-begins : goal.returns-clause-begins
returns-clause-begins c =
    let w = c.loop-visited.invariant in let visited = c.loop-visited.visited.items in let a = c.loop-visited.at in
    let lt : a.0 < length visited = (let n : a.0 < length c.args.ranks.now = slice_get_within c.args.ranks.now a.0 None w.is_open in omega (arith, n, w.for_each)) in
    let old : slice_get visited a.0 ≡ Some true = slice_get-get_or visited a.0 c.index.result.now lt ∙ ap Some (sym c.index.ensures ∙ c.loop-visited-test.false) in
    let is : c.in_ok-circle.circle ≡ from_visit a c.loop-visited.walk = c.in_ok-circle.ensures ∙ ap (from_visit a) c.as_slice.ensures in
    subst (λ (circle : List AttrId). BeginsOpen c.args.ranks.now circle) (sym is) (begins_open c.args.ranks.now a c.loop-visited.walk (w.marked a old) w.is_open)
