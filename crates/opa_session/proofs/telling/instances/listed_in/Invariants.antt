use Rattle.std.proofs.Common.{◌≡◌, take}
use Rattle.std.specs.Option.{option_copied}
use Rattle.opa_case.specs.Cases.{list_of}
use Rattle.opa_session.specs.Telling.Sought.{is_wanted}
use Rattle.opa_session.specs.Telling.Wanted.{wanted_listed}
use Rattle.opa_session.proofs.telling.instances.listed_in.Given as goal

abbrev pub invariant-loop-container : goal.invariant-loop-container
invariant-loop-container g l = l.found ≡ wanted_listed (is_wanted (option_copied l.wanted)) (list_of (g.K.Lined.over l.held)) l.rel l.entity (take l.container-index l.containers)
