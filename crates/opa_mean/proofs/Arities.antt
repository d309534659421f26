-- An operation on another number of values than it takes.
use Rattle.std.proofs.Common.{◌≡◌, List, [], ◌∷◌, refl}
use Rattle.opa_value.specs.declared.value.Value.{Value}
use Rattle.opa_value.specs.declared.value.Value.TheVariants.{Uncertain}
use Rattle.opa_tree.specs.declared.kinds.OpKind.{OpKind}
use Rattle.opa_tree.specs.declared.kinds.OpKind.TheVariants as op
use Rattle.opa_mean.specs.Operations.{op_of}

pub of_none : (k : OpKind) → op_of k [] ≡ Uncertain
of_none op.Neg = refl
of_none op.YearOf = refl
of_none op.MonthOf = refl
of_none op.DayOf = refl
of_none _ = refl

pub of_many : (k : OpKind) (u v w : Value) (vs : List Value) → op_of k (u ∷ v ∷ w ∷ vs) ≡ Uncertain
of_many op.Neg u v w vs = refl
of_many op.YearOf u v w vs = refl
of_many op.MonthOf u v w vs = refl
of_many op.DayOf u v w vs = refl
of_many _ u v w vs = refl

pub ruleset arities = (of_none, of_many)
