use Rattle.std.specs.Prelude.{◌≡◌, take}
use Rattle.opa_case.specs.Cases.{list_of}
use Rattle.opa_case.specs.Instances.{listed_by}
use Rattle.opa_case.proofs.instances.listed_in.Given as goal

abbrev pub invariant-loop-container : goal.invariant-loop-container
invariant-loop-container l = l.found ≡ listed_by (list_of l.case) l.rel l.entity (take l.container-index l.containers)
