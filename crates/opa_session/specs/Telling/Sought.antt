-- Instances that are sought.
use Rattle.std.specs.Prelude.{Bool, true, Option, None, Some}
use Rattle.opa_cells.specs.declared.instance.InstanceId.{InstanceId}
use Rattle.opa_session.specs.Telling.Wanted.{has_wanted}
use Rattle.opa_session.specs.declared.telling.sought.Sought.{Sought}

-- all instances are wanted where none are named
abbrev pub is_wanted : Option Sought → InstanceId → Bool
is_wanted None i = true
is_wanted (Some s) i = has_wanted s.wanted i
