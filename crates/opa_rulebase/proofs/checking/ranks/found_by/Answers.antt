use Rattle.std.proofs.Common.{◌≡◌, ◌∙◌, ◌≤◌, sym, arith}
use Rattle.opa_rulebase.specs.Checking.Found.{rank_found}
use Rattle.opa_rulebase.proofs.checking.FoundLaws.{highest_low}
use Rattle.opa_rulebase.proofs.checking.ranks.found_by.Goals as goal

pub overflow_add-result : goal.overflow_add-result
overflow_add-result c =
    let highest = c.in-Some-highest_found.highest in
    let low : highest ≤ c.args.most = highest_low (rank_found c.args.ranks.now) c.as_slice.result.now highest c.args.most c.requires.low (sym c.highest_found.ensures ∙ c.in-Some-highest_found.is) in
    omega (arith, low, c.requires.few)
