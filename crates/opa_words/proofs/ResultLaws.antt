-- What follows from what is known of a result.
use Rattle.std.specs.Prelude.{Result, Ok, Err, IfErr}

pub on_err : {A E : Type 0} (P Q : E → Type 0) (r : Result A E) → ((e : E) → P e → Q e) → IfErr r P → IfErr r Q
on_err P Q (Ok x) f h = tt
on_err P Q (Err e) f h = f e h
