-- What is known at every day stays.
use Rattle.std.proofs.Common.{◌≡◌, ◌≢◌, inl, inr, sym}
use Rattle.opa_value.specs.declared.value.Value.{Value}
use Rattle.opa_value.specs.declared.value.Value.TheVariants.{Unknown}
use Rattle.opa_value.specs.Below.{IsBelow}
use Rattle.opa_mean.proofs.LawsOver.{monotone_holds}
use Rattle.opa_mean.specs.Reached.Dirty.{SettledStays}

known_is : (v w : Value) → IsBelow v w → v ≢ Unknown → w ≡ v
known_is v w (inl un) known = absurd (known un)
known_is v w (inr same) known = sym same

pub settled_stays : SettledStays
settled_stays r c c' h a i free live known d lt = known_is _ _ (monotone_holds r c c' h a i d free live) (known d lt)
