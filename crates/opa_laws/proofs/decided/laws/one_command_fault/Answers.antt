use Rattle.opa_script.proofs.LawsHold.{refused_or_read_holds}
use Rattle.opa_laws.proofs.decided.LineFaults.{one_command_fault_holds}
use Rattle.opa_laws.proofs.decided.ReplyFaults.{one_reply_fault_holds}
use Rattle.opa_laws.proofs.decided.laws.one_command_fault.Goals as goal

pub returns-clause-fault : goal.returns-clause-fault
returns-clause-fault c = one_command_fault_holds

pub returns-clause-apart : goal.returns-clause-apart
returns-clause-apart c = refused_or_read_holds

pub returns-clause-reply : goal.returns-clause-reply
returns-clause-reply c = one_reply_fault_holds
