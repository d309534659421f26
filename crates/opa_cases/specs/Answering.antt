-- What a caseload holds, as what is held between two lines.
use Rattle.std.specs.Prelude.{Option}
use Rattle.std.specs.declared.sync.ledger.Ledger.{Ghosts}
use Rattle.opa_io.specs.Outside.{Files}
use Rattle.opa_session.specs.Infer.Sessions.{rules_of}
use Rattle.opa_cases.specs.declared.caseload.Caseload.{Caseload}
use Rattle.opa_cases.specs.Caseload.{Held, held}
use Rattle.opa_cases.specs.Holding.{opens_of}

abbrev pub holding : {L : Type 0} {G : Ghosts L} → Caseload L G → Option Files → Held
holding c files = held (rules_of c.session) (opens_of c.session c.current c.others) files
