use Rattle.std.proofs.lemmas.Grind.{common_steps}
use Rattle.std.proofs.Common.{arith, sym, ap, ◌∙◌, ◌+◌, ℕ, Bool, true, false, ◌≡◌, not, cond, refl}
use Rattle.std.specs.Prelude.{is_some}
use Rattle.std.specs.FinMap as map
use mathlib.Core.Bool.{true≢false}
use Rattle.opa_cells.specs.declared.instance.InstanceId.{InstanceId}
use Rattle.opa_cells.proofs.Orders.{cell_total}
use Rattle.opa_cells.proofs.cells.Cells.insert.Goals as goal

was : (b : Bool) → not b ≡ false → b ≡ true
was true h = refl
was false h = absurd (true≢false h)

was_not : (b : Bool) → not b ≡ true → b ≡ false
was_not false h = refl
was_not true h = absurd (true≢false (sym h))

pub invariant_of-self-then-branch : goal.invariant_of-self-then-branch
invariant_of-self-then-branch g c =
    let k : ℕ × InstanceId = (c.args.number, c.args.inst) in
    let m = c.self.inside.rows in
    let new = was_not (is_some (map.get m k)) (sym c.in_ok-insert.ensures.new ∙ c.if-branch.true) in
    grind (arith, common_steps) ∙ ap (λ n. n + 1) c.self.invariant ∙ ap (λ b. cond b (map.len m) (map.len m + 1)) (sym new) ∙ sym (ap map.len c.in_ok-insert.ensures.ok ∙ map.len-insert cell_total m k c.args.value)

pub invariant_of-self-else-branch : goal.invariant_of-self-else-branch
invariant_of-self-else-branch g c =
    let k : ℕ × InstanceId = (c.args.number, c.args.inst) in
    let m = c.self.inside.rows in
    let known = was (is_some (map.get m k)) (sym c.in_ok-insert.ensures.new ∙ c.if-branch.false) in
    c.self.invariant ∙ ap (λ b. cond b (map.len m) (map.len m + 1)) (sym known) ∙ sym (ap map.len c.in_ok-insert.ensures.ok ∙ map.len-insert cell_total m k c.args.value)
