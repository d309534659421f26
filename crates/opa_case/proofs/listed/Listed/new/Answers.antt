use Rattle.opa_case.proofs.Listing.{index_of_none}
use Rattle.opa_case.proofs.listed.Listed.new.Goals as goal

pub invariant_of-result : goal.invariant_of-result
invariant_of-result c = index_of_none c.new.result c.new-2.result.entries c.new.ensures c.new-2.ensures.empty
