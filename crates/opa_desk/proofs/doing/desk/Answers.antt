use Rattle.opa_desk.proofs.OnlyLaws.{only_of}
use Rattle.opa_desk.proofs.doing.desk.Goals as goal

pub returns-clause-only : goal.returns-clause-only
returns-clause-only g c =
    only_of c.one_opening.ensures c.one_command.ensures c.one_command_fault.ensures.fault c.one_command_fault.ensures.apart c.args.words.now _ _ c.do_words.result c.do_words.ensures.promises
