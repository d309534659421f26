use Rattle.std.proofs.Common.{◌≤◌, ◌+◌, length, take, arith, vec_len}
use Rattle.std.proofs.lemmas.List.{length-take-le}
use Rattle.std.proofs.lemmas.Result.{err_from_is_err_and}
use Rattle.opa_talk.proofs.whole_input.ReadLaws.{without_memory, over_the_limit}
use Rattle.opa_talk.proofs.whole_input.reading.read_all.Goals as goal

pub returns-in_err-extend_from_slice-clause-err : goal.returns-in_err-extend_from_slice-clause-err
returns-in_err-extend_from_slice-clause-err g c =
    let p = err_from_is_err_and c.from_residual-in_err-extend_from_slice.result c.from_residual-in_err-extend_from_slice.ensures.1 in
    let less : vec_len c.truncate.new.self ≤ c.loop-left.left = omega arith in
    let read : c.in-Ok.count ≤ vec_len c.read_into.new.buf = c.in-Ok.ensures.bound in
    let within : c.in-Ok.count ≤ length c.read_into.new.buf.items = omega (arith, c.read_into.new.buf.ok) in
    rw (p.1, p.2) (without_memory 67108864 _ _ _ c.loop-left.bytes.items c.loop-left.invariant.took (take c.in-Ok.count c.read_into.new.buf.items) c.in-Ok.ensures.bytes.0
    (omega (arith, c.loop-left.invariant.so_far, length-take-le c.in-Ok.count c.read_into.new.buf.items within, c.read_into.ensures.len)))

pub returns-else-ended-clause-err : goal.returns-else-ended-clause-err
returns-else-ended-clause-err g c =
    over_the_limit 67108864 _ _ _ c.loop-left.bytes.items c.loop-left.invariant.took c.in-Ok-is_at_end.ended c.if-ended.false (omega (arith, c.loop-left.invariant.so_far)) c.in-Ok-is_at_end.ensures.bytes
