use Rattle.std.proofs.Common.{◌<◌, ◌^◌, ◌∙◌, length, refl, sym, ap, arith}
use Rattle.std.proofs.lemmas.Grind.{pieces}
use Rattle.opa_window.specs.Days.{day_value}
use Rattle.opa_code.proofs.over_lines.Adding.{constants_more, taken_small}
use Rattle.opa_code.proofs.over_lines.steady.constant_tally.Goals as goal

pub loop-operand-init : goal.loop-operand-init
loop-operand-init c = record { tallied = c.none-tally.ensures c.args.most; constant = λ d. refl }

pub counted-tally-requires : goal.counted-tally-requires
counted-tally-requires c =
    let few : length c.args.operands.now < 2 ^ 63 = search (pieces, arith) in
    taken_small c.args.most c.args.operands.now c.loop-operand.operand-index c.loop-operand.tally few c.loop-operand.invariant.tallied

pub loop-operand-preserved : goal.loop-operand-preserved
loop-operand-preserved c =
    constants_more c.args.most c.args.operands.now c.loop-operand.operand-index c.operand-item.result c.in-Some.value.now c.loop-operand.tally c.counted-tally.result c.loop-operand-test.true c.operand-item.is (λ d. ap (λ l. day_value l d) (sym c.line.ensures) ∙ c.in-Some.ensures d) c.counted-tally.ensures c.loop-operand.invariant
