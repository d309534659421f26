use Rattle.std.proofs.Common.{◌≡◌, map, take}
use Rattle.std.specs.List.{list_all}
use Rattle.opa_model.specs.declared.things.Kind.TheVariants as kind
use Rattle.opa_tree.specs.Kinds.{typed, typing, can_have}
use Rattle.opa_rulebase.specs.Checking.KindSets.{typing_of, row_typed}
use Rattle.opa_rulebase.proofs.checking.kinds.+walk.Given as goal

abbrev pub invariant-all_bools-loop-part : goal.invariant-all_bools-loop-part
invariant-all_bools-loop-part l = l.all ≡ list_all (λ e. can_have l.model e kind.Bool) (take l.part-index l.parts)

abbrev pub invariant-kinds_of_each-loop-part : goal.invariant-kinds_of_each-loop-part
invariant-kinds_of_each-loop-part l = map typing_of l.sets.items ≡ map (typing l.model) (take l.part-index l.parts)

abbrev pub invariant-kinds_of_rows-loop-row : goal.invariant-kinds_of_rows-loop-row
invariant-kinds_of_rows-loop-row l = map typing_of l.sets.items ≡ map (row_typed l.model) (take l.row-index l.rows)
