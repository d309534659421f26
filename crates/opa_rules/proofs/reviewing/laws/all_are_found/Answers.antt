use Rattle.opa_rules.proofs.reviewing.FoundLaws
use Rattle.opa_rules.proofs.reviewing.laws.all_are_found.Goals as goal

pub returns : goal.returns
returns c = record { unused = FoundLaws.unused_are_found; settled = FoundLaws.settled_are_found }
