use Rattle.std.proofs.Common.{ap, ◌∙◌, ◌++◌}
use Rattle.opa_cases.proofs.BehindLaws.{fronted, behind_more}
use Rattle.opa_cases.proofs.naming.add_lines.Goals as goal

pub loop-line-preserved : goal.loop-line-preserved
loop-line-preserved c =
    ap (λ o. o ++ fronted c.args.front.now c.in-Some.after.now) c.in_ok-add_line.ensures
    ∙ behind_more c.args.front.now c.loop-line.rest.now _ c.in-Some.line.now c.in-Some.after.now c.loop-line.out.items c.in-Some.ensures.0 c.in-Some.ensures.1 c.loop-line.invariant
