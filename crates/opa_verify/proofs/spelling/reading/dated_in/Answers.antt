use Rattle.std.proofs.Common.{arith}
use Rattle.opa_verify.proofs.spelling.Daying.{no_day_end, no_at, point_at}
use Rattle.opa_verify.proofs.spelling.reading.dated_in.Goals as goal

pub returns-in-None : goal.returns-in-None
returns-in-None c = no_day_end c.args.text.now c.split_at.result.0.now c.split_at.result.1.now c.split_at.ensures.by_index.0 (omega (arith, c.split_at.ensures.back_len, c.if-text-lt10.false)) c.in-None.ensures

pub returns-in-None-before : goal.returns-in-None-before
returns-in-None-before c = no_at c.args.text.now c.split_at.result.0.now c.split_at.result.1.now c.split_at.ensures.by_index.0 (omega (arith, c.split_at.ensures.back_len, c.if-text-lt10.false)) c.in-None-before.ensures

pub returns-in-Some-before : goal.returns-in-Some-before
returns-in-Some-before c = point_at c.args.text.now c.split_at.result.0.now c.split_at.result.1.now c.in-Some-before.point.now c.in-Some.day c.split_at.ensures.by_index.0 c.in-Some.ensures.0 c.in-Some.ensures.1 c.in-Some-before.ensures
