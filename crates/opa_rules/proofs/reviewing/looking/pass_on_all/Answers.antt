use Rattle.std.proofs.Common.{◌≡◌, ◌<◌, ◌≤◌, ◌+◌, ◌-◌, ℕ, [], length, arith, subst, sym}
use Rattle.opa_rules.specs.Reviewing.Marks.{AreSpread}
use Rattle.opa_rules.proofs.reviewing.looking.pass_on_all.Goals as goal

pub loop-done-preserved : goal.loop-done-preserved
loop-done-preserved c =
    λ start.
    let r = c.args.base.now in
    let all = length c.args.levels.now in
    let lt : c.loop-done.done < all = omega (arith, c.loop-done-test.true) in
    let before : all - c.loop-done.done ≡ (all - 1 - c.loop-done.done) + 1 = omega (arith, lt) in
    let after : all - 1 - c.loop-done.done ≡ all - (c.loop-done.done + 1) = omega (arith, lt) in
    let so_far = subst (λ (n : ℕ). AreSpread r n [] c.loop-done.marks.items) before (c.loop-done.invariant start) in
    subst (λ (n : ℕ). AreSpread r n [] c.pass_on_from.new.marks.items) after (c.in_ok-pass_on_from.ensures so_far)

pub returns : goal.returns
returns c =
    λ start.
    let past : length c.args.levels.now ≤ c.loop-done.done = omega (arith, c.loop-done-test.false) in
    let none : length c.args.levels.now - c.loop-done.done ≡ 0 = omega (arith, past) in
    subst (λ (n : ℕ). AreSpread c.args.base.now n [] c.loop-done.marks.items) none (c.loop-done.invariant start)
