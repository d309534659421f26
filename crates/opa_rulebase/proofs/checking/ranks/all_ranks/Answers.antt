use Rattle.std.proofs.Common.{◌≡◌, ◌<◌, ◌≤◌, length, arith}
use Rattle.opa_rulebase.specs.Checking.Found.{found_count}
use Rattle.opa_rulebase.proofs.checking.TakeLaws.{count_most}
use Rattle.opa_rulebase.proofs.checking.ranks.all_ranks.Goals as goal

pub loop-smaller : goal.loop-smaller
loop-smaller c =
    let new = c.pass.new.self in let most : found_count new.ranks.items ≤ length new.ranks.items = count_most new.ranks.items in
    let found = c.pass.ensures.found in let more : c.loop.ranking.taken < new.taken = c.loop-test.ensures.more in
    omega (arith, most, found.counted, found.for_each, more)
