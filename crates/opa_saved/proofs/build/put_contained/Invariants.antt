use Rattle.std.specs.Prelude.{◌≡◌, take}
use Rattle.std.specs.List.{AllByRecursion}
use Rattle.opa_case.specs.Shapes.{shape_of}
use Rattle.opa_saved.specs.Building.{HoldsSome, Agrees, OnlyContains, Keeps}
use Rattle.opa_saved.proofs.build.put_contained.Given as goal

abbrev pub invariant-loop-number : goal.invariant-loop-number
invariant-loop-number l = record {
  some : HoldsSome (shape_of l.model) l.ruled l.lists l.case;
  only : OnlyContains (shape_of l.model) l.case;
  keeps : Keeps l.lists l.fn.case l.case;
  done : AllByRecursion (λ cell. cell.0 ≡ ((shape_of l.model).contained l.entity).0 → Agrees l.lists l.case cell.0 cell.1.now) (take l.number-index l.number-items);
}
