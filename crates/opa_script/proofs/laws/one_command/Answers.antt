use Rattle.opa_script.proofs.OneCommand.{one_command_holds}
use Rattle.opa_script.proofs.laws.one_command.Goals as goal

pub returns : goal.returns
returns c = one_command_holds
