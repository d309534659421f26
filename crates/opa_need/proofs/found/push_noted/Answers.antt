use Rattle.opa_need.proofs.Indexing.{none_indexed, one_indexed}
use Rattle.opa_need.proofs.found.push_noted.Goals as goal

pub returns-in-Ok-clause-indexed : goal.returns-in-Ok-clause-indexed
returns-in-Ok-clause-indexed c =
    one_indexed c.args.questions.now c.push.new.self c.args.attrs.now c.args.lists.now c.note.new.attrs c.note.new.lists c.args.question c.in-Ok.ensures.ok c.requires c.in_ok-note.ensures.noted

pub returns-in-Err-clause-indexed : goal.returns-in-Err-clause-indexed
returns-in-Err-clause-indexed c = none_indexed c.new.result c.new-in-Err.result c.new-in-Err-2.result c.new.ensures c.new-in-Err.ensures c.new-in-Err-2.ensures
