use Rattle.std.proofs.Common.{sym, ◌∙◌}
use Rattle.opa_verify.proofs.verdict.Judged.{walked_none, walked_more, walked_fault, walked_done, one_dated}
use Rattle.opa_verify.proofs.verdict.naming.lines_named.Goals as goal

pub loop-line-init : goal.loop-line-init
loop-line-init c = walked_none c.args.base.now c.args.printed.now c.new-lines.result c.requires c.new-lines.ensures

pub line_named-requires : goal.line_named-requires
line_named-requires c = one_dated c.args.base.now c.args.printed.now c.loop-line.rest.now c.loop-line.lines c.loop-line.place c.loop-line.invariant c.in-Some.line.now c.in-Some.later.now c.in-Some.ensures

pub returns-in-None : goal.returns-in-None
returns-in-None c =
    walked_fault c.args.base.now c.args.printed.now c.loop-line.rest.now c.loop-line.lines c.loop-line.place c.loop-line.invariant c.in-Some.line.now c.in-Some.later.now c.in-Some.ensures (sym c.in_ok-line_named.ensures ∙ c.in-None.is)

pub loop-line-preserved : goal.loop-line-preserved
loop-line-preserved c =
    walked_more c.args.base.now c.args.printed.now c.loop-line.rest.now c.loop-line.lines c.loop-line.place c.loop-line.invariant c.in-Some.line.now c.in-Some.later.now c.in-Some.ensures c.in-Some-2.found c.push.new.self
    (sym c.in_ok-line_named.ensures ∙ c.in-Some-2.is) c.in_ok-push-in-Some-2.ensures.ok

pub returns : goal.returns
returns c = walked_done c.args.base.now c.args.printed.now c.loop-line.rest.now c.loop-line.lines c.loop-line.place c.loop-line.invariant c.in_default.ensures
