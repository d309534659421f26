-- What follows of what a result holds.
use Rattle.std.proofs.Common.{◌≡◌, Bool, false, Decides}
use Rattle.std.proofs.lemmas.Bool.{both_ways}

pub isnt : {P : Type 0} (b : Bool) → Decides b P → b ≡ false → P → ⊥
isnt b d e p = both_ways b e (d.1 p)
