use Rattle.std.proofs.Common.{sym}
use Rattle.opa_words.specs.Pieces.{seen}
use Rattle.opa_script.proofs.Passing.{passed_more, passed_equals}
use Rattle.opa_script.proofs.points.at_equals.Goals as goal

pub returns-then-is_equals-clause-parts : goal.returns-then-is_equals-clause-parts
returns-then-is_equals-clause-parts c =
    passed_equals (seen c.args.pieces) (seen c.loop-kind.rest) (seen c.in-Some.later) (seen c.split.result.0) (seen c.split.result.1) _ c.loop-kind.count
    c.loop-kind.invariant.passed c.in-Some.ensures.first (sym c.if-is_equals.ensures) c.split.ensures.parts c.split.ensures.front

pub loop-kind-preserved : goal.loop-kind-preserved
loop-kind-preserved c = record {
  passed = passed_more (seen c.args.pieces) (seen c.loop-kind.rest) (seen c.in-Some.later) _ c.loop-kind.count c.loop-kind.invariant.passed c.in-Some.ensures.first (sym c.if-is_equals.ensures);
  kinds = c.in-Some.ensures.later;
}
