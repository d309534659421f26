use Rattle.std.proofs.Common.{◌≡◌, ◌∙◌, ◌<◌, ℕ, length, arith}
use Rattle.opa_rulebase.proofs.checking.TakeLaws.{none_found}
use Rattle.opa_rulebase.proofs.checking.ranks.Ranking.none.Goals as goal

pub returns : goal.returns
returns c = none_found c.args.uses.now c.loop.ranks.items (omega (arith, c.loop.invariant.0, c.loop-test.false, c.loop.auto.counter-end)) (λ n lt. c.loop.invariant.1 n (omega (arith, lt, c.loop-test.false)))
