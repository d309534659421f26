-- An operation on another number of operands than it takes.
use Rattle.std.proofs.Common.{◌≡◌, ℕ, ◌<◌, ◌≤◌, List, [], ◌∷◌, length, arith}
use Rattle.opa_value.specs.declared.value.Value.{Value}
use Rattle.opa_value.specs.declared.value.Value.TheVariants.{Uncertain}
use Rattle.opa_tree.specs.declared.kinds.OpKind.{OpKind}
use Rattle.opa_window.specs.Days.{day_value}
use Rattle.opa_mean.specs.Operations.{op_of}
use Rattle.opa_mean.proofs.Arities.{of_none, of_many}
use Rattle.opa_code.specs.OverLines.Lines.{values_at}

pub no_operands : (k : OpKind) (lines : List (List (ℕ × Value))) (d : ℕ) → length lines < 1 → op_of k (values_at lines d) ≡ Uncertain
no_operands k [] d h = of_none k
no_operands k (a ∷ ls) d h = absurd (omega (arith, h))

pub many_operands : (k : OpKind) (lines : List (List (ℕ × Value))) (d : ℕ) → 3 ≤ length lines → op_of k (values_at lines d) ≡ Uncertain
many_operands k [] d h = absurd (omega (arith, h))
many_operands k (a ∷ []) d h = absurd (omega (arith, h))
many_operands k (a ∷ b ∷ []) d h = absurd (omega (arith, h))
many_operands k (a ∷ b ∷ c ∷ ls) d h = of_many k (day_value a d) (day_value b d) (day_value c d) (values_at ls d)
