use Rattle.opa_session.proofs.readers.ByAnswers.{same_lists}
use Rattle.opa_session.proofs.readers.beginning.are_by_answers.Goals as goal

pub returns : goal.returns
returns c = λ t. same_lists c.args.base.now c.args.held.now c.args.next.now c.requires.before c.requires.after (c.in_ok-same.ensures t)
