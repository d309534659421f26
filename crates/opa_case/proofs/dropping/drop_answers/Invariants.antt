use Rattle.std.specs.Prelude.{◌≡◌, ◌&&◌, nat_lt, ℕ, cond, None, take}
use Rattle.std.specs.List.{list_any}
use Rattle.std.specs.FinMap.{get}
use Rattle.opa_cells.specs.declared.instance.InstanceId.{InstanceId}
use Rattle.opa_case.specs.Shapes.{shape_of}
use Rattle.opa_case.specs.Lost.{answers_of}
use Rattle.opa_case.proofs.dropping.drop_answers.Given as goal

abbrev pub invariant-loop-inst : goal.invariant-loop-inst
invariant-loop-inst l = (a : ℕ) (j : InstanceId) → get l.answers (a, j) ≡ cond (nat_lt a (shape_of l.model).attributes && list_any (λ g. answers_of (shape_of l.model) g.0 a j) (take l.inst-index l.gone)) None (get l.fn.answers (a, j))
