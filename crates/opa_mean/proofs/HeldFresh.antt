-- What is held gives each tree its value over the determination.
use Rattle.opa_mean.specs.SlotLaws.{HeldIsFresh}
use Rattle.opa_mean.proofs.Holdings.{over_held}

pub held_is_fresh : HeldIsFresh
held_is_fresh r c is e enclosing lives d lt = over_held r c is e enclosing lives d lt
