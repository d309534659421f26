use Rattle.std.proofs.Common.{[], ◌∷◌, ◌++◌}
use Rattle.opa_verify.proofs.spelling.Lining.{unended_more, ended, ended_parts, ended_shorter, never_ended}
use Rattle.opa_verify.proofs.spelling.lines.first_line.Goals as goal

pub returns-then-byte-eq10-clause-lines : goal.returns-then-byte-eq10-clause-lines
returns-then-byte-eq10-clause-lines c =
    ended c.args.text.now c.loop-byte.invariant.0 c.loop-byte.rest.now c.in-Some.later.now c.split_at.result.0.now c.loop-byte.count c.in-Some.byte.now c.loop-byte.invariant.1 c.in-Some.ensures c.if-byte-eq10.true c.split_at.ensures.front

pub returns-then-byte-eq10-clause-parts : goal.returns-then-byte-eq10-clause-parts
returns-then-byte-eq10-clause-parts c =
    ended_parts c.args.text.now c.loop-byte.invariant.0 c.loop-byte.rest.now c.in-Some.later.now c.split_at.result.0.now c.loop-byte.count c.in-Some.byte.now c.loop-byte.invariant.1 c.in-Some.ensures c.split_at.ensures.front

pub returns-then-byte-eq10-clause-shorter : goal.returns-then-byte-eq10-clause-shorter
returns-then-byte-eq10-clause-shorter c =
    ended_shorter c.args.text.now c.loop-byte.invariant.0 c.loop-byte.rest.now c.in-Some.later.now c.loop-byte.count c.in-Some.byte.now c.loop-byte.invariant.1 c.in-Some.ensures

pub loop-byte-preserved : goal.loop-byte-preserved
loop-byte-preserved c = (
  c.loop-byte.invariant.0 ++ c.in-Some.byte.now ∷ [],
  unended_more c.args.text.now c.loop-byte.invariant.0 c.loop-byte.rest.now c.in-Some.later.now c.loop-byte.count c.in-Some.byte.now c.loop-byte.invariant.1 c.in-Some.ensures c.if-byte-eq10.false,
)

pub returns-clause-lines : goal.returns-clause-lines
returns-clause-lines c = never_ended c.args.text.now c.loop-byte.invariant.0 c.loop-byte.rest.now c.loop-byte.count c.loop-byte.invariant.1 c.in_default.ensures
