use Rattle.std.specs.Prelude.{◌==◌, ◌&&◌}
use Rattle.std.specs.FinMap.{get}
use Rattle.opa_case.specs.Shapes.{shape_of}
use Rattle.opa_case.specs.Lost.{stands_at, refers_to}
use Rattle.opa_case.proofs.Taken.{then_taken, either_of}
use Rattle.opa_case.proofs.dropping.drop_of_relation.Goals as goal

pub returns : goal.returns
returns c q j =
    let s = shape_of c.args.model.now in
    let i = c.args.inst.now in
    let n = c.args.number in
    let o = get c.args.lists.now (q, j) in
    then_taken o _ _ (q == n && stands_at s i q j) (λ p. q == n && refers_to s i q p) _ (c.drop_own.ensures q j) (c.drop_naming.ensures q j) (either_of (q == n) (stands_at s i q j) (refers_to s i q o))
