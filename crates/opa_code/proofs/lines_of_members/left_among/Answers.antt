use Rattle.opa_line.proofs.Zipping.{ok_weaker}
use Rattle.opa_code.proofs.TreeLines.{first_left}
use Rattle.opa_code.proofs.lines_of_members.left_among.Goals as goal

pub returns-clause-left : goal.returns-clause-left
returns-clause-left g c =
    ok_weaker c.taken_first.result _ _ (λ line h. first_left (g.K.Look.looks c.args.look.now) c.args.enclosing.now c.args.nodes.now c.in_ok-lines.lines.items line c.in_ok-lines.ensures.left h) c.taken_first.ensures
