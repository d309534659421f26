use Rattle.std.proofs.Common.{refl, sym, ◌∙◌, ap, subst}
use Rattle.std.proofs.lemmas.Result.{on_ok_weaker}
use Rattle.opa_window.specs.Days.{day_value}
use Rattle.opa_code.specs.OverLines.Tallies.{IsCounted}
use Rattle.opa_code.proofs.over_lines.Adding.{constant_added, dated_added}
use Rattle.opa_code.proofs.over_lines.items.Items.add.Goals as goal

pub returns-in-Some : goal.returns-in-Some
returns-in-Some c =
    constant_added (day_value c.args.operand) c.in-Some.value.now c.args.self.now _ (λ d. ap (λ l. day_value l d) (sym c.line.ensures) ∙ c.in-Some.ensures d) refl
    (subst (λ m. IsCounted m c.in-Some.value.now c.args.self.now.constant c.counted-self.result) c.is_most.ensures c.counted-self.ensures) refl c.in_ok-keep_first.ensures

pub returns-in-None : goal.returns-in-None
returns-in-None c =
    on_ok_weaker c.push.result (λ e. dated_added (day_value c.args.operand) c.args.operand c.args.self.now _ (λ d lt. refl) refl refl e c.in_ok-keep_first.ensures) c.push.ensures.ok
