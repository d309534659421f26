use Rattle.std.specs.Prelude.{◌≡◌, ℕ, List, take}
use Rattle.std.specs.List.{list_any}
use Rattle.opa_cells.specs.Instances.{is_text}
use Rattle.opa_case.specs.Homes.{has_name}
use Rattle.opa_case.proofs.names.set_of.Given as goal

abbrev pub invariant-loop-name : goal.invariant-loop-name
invariant-loop-name l = (q : List ℕ) → has_name l.found q ≡ list_any (is_text q) (take l.name-index l.names)
