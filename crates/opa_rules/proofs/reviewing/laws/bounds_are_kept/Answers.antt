use Rattle.opa_rules.proofs.reviewing.KeptBounds
use Rattle.opa_rules.proofs.reviewing.laws.bounds_are_kept.Goals as goal

pub returns : goal.returns
returns c = KeptBounds.bounds_are_kept
