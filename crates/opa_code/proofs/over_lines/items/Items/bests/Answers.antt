use Rattle.std.proofs.Common.{List, ◌++◌, subst}
use Rattle.opa_line.proofs.Zipping.{ok_weaker}
use Rattle.opa_line.specs.Pointwise.{EachDay}
use Rattle.opa_date.specs.declared.TheConstants.{DAYS}
use Rattle.opa_value.specs.declared.value.Value.{Value}
use Rattle.opa_code.specs.OverLines.Extremes.{AreBests}
use Rattle.opa_code.specs.OverLines.Lines.{values_at}
use Rattle.opa_code.proofs.over_lines.Adding.{all_bests}
use Rattle.opa_code.proofs.over_lines.items.Items.bests.Goals as goal

pub returns : goal.returns
returns c =
    let held = c.args.self.now in
    ok_weaker c.bests_beside.result _ _
    (λ l h values gathered. all_bests values held c.as_slice.result.now c.of_tally-before.result l c.as_slice.ensures c.of_tally-before.ensures gathered
    (subst (λ m. (before : List Value) → AreBests m before c.of_tally-before.result → EachDay (λ d t. AreBests m (before ++ values_at c.as_slice.result.now d) t) DAYS l) c.is_most-most.ensures h)) c.bests_beside.ensures
