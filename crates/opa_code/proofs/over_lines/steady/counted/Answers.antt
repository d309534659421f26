use Rattle.std.proofs.Common.{[], ◌∷◌, arith}
use Rattle.opa_code.proofs.over_lines.Tallying.{sums_small, tally_both}
use Rattle.opa_code.proofs.over_lines.steady.counted.Goals as goal

pub both-requires-clause-second : goal.both-requires-clause-second
both-requires-clause-second c = sums_small (c.args.value.now ∷ []) c.one-one.result.sums (omega arith) (c.one-one.ensures.tally c.args.most).sums

pub returns : goal.returns
returns c = record { tallied = λ vs h. tally_both c.args.most vs (c.args.value.now ∷ []) c.args.tally.now c.one-one.result c.both.result h (c.one-one.ensures.tally c.args.most) c.both.ensures }
