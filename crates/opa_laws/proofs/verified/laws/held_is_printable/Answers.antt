use Rattle.opa_laws.proofs.verified.Runs.{held_in_runs_holds, held_in_interviews_holds}
use Rattle.opa_laws.proofs.verified.laws.held_is_printable.Goals as goal

pub returns-clause-run : goal.returns-clause-run
returns-clause-run c = held_in_runs_holds

pub returns-clause-interview : goal.returns-clause-interview
returns-clause-interview c = held_in_interviews_holds
