use Rattle.opa_words.proofs.layout.laying.put.Goals as goal

pub returns-in_ok-go_on-clause-blocks : goal.returns-in_ok-go_on-clause-blocks
returns-in_ok-go_on-clause-blocks c = c.in_ok-go_on.ensures.blocks c.args.file c.requires.blocks
