use Rattle.std.proofs.Common.{refl, subst}
use Rattle.opa_code.specs.OverLines.Tallies.{IsCounted}
use Rattle.opa_code.proofs.over_lines.Adding.{constant_added}
use Rattle.opa_code.proofs.over_lines.items.Items.add_value.Goals as goal

pub returns : goal.returns
returns c =
    constant_added (λ d. c.args.value.now) c.args.value.now c.args.self.now _ (λ d. refl) refl
    (subst (λ m. IsCounted m c.args.value.now c.args.self.now.constant c.counted-self.result) c.is_most.ensures c.counted-self.ensures) refl c.in_ok-keep_first_value.ensures
