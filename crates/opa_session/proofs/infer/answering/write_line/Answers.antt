use Rattle.std.proofs.Common.{◌∙◌}
use Rattle.opa_case.specs.Shapes.{shape_of}
use Rattle.opa_session.proofs.infer.Accepted.{answer_gives, telling}
use Rattle.opa_session.proofs.infer.answering.write_line.Goals as goal

pub returns-in-Ok-clause-case : goal.returns-in-Ok-clause-case
returns-in-Ok-clause-case c =
    answer_gives (shape_of c.args.base.now.model) c.args.base.now.ruled c.args.case.now c.args.attr c.args.inst.now c.args.line c.answer.new.self c.in-Ok.ensures.ok
    ∙ telling c.args.case.now c.args.attr c.args.inst.now c.args.line c.requires.tells
