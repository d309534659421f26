use Rattle.std.specs.Prelude.{◌≡◌, take}
use Rattle.opa_case.specs.Turns.{names_without}
use Rattle.opa_case.proofs.names.many_without.Given as goal

abbrev pub invariant-loop-name : goal.invariant-loop-name
invariant-loop-name l = l.left ≡ names_without (take l.name-index l.names) l.others
