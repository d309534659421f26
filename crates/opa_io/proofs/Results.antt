-- Laws of what may fail.
use Rattle.std.proofs.Common.{OnOk}
use Rattle.std.specs.Prelude.{Err, IfOk, Ok, OnErr, Result}

-- what holds anyway holds of a failure
pub always_on_err : {T E P : Type 0} (r : Result T E) → P → OnErr r P
always_on_err (Ok x) p = tt
always_on_err (Err e) p = p

-- what holds anyway holds of a success
pub always_on_ok : {T E : Type 0} (o : Result T E) (P : Type 0) → P → OnOk o P
always_on_ok (Ok x) P h = h
always_on_ok (Err e) P h = tt

-- what follows of a fact that a success shows
pub on_ok_then : {T E : Type 0} (r : Result T E) (P Q : Type 0) → (P → Q) → OnOk r P → OnOk r Q
on_ok_then (Ok x) P Q f h = f h
on_ok_then (Err e) P Q f h = tt

-- what follows of what a success holds
pub if_ok_then : {A E : Type 0} (P Q : A → Type 0) (r : Result A E) → ((x : A) → P x → Q x) → IfOk r P → IfOk r Q
if_ok_then P Q (Ok x) f h = f x h
if_ok_then P Q (Err e) f h = tt
