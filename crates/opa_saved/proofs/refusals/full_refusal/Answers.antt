use Rattle.std.proofs.Common.{cond, refl, sym, ap, ◌∙◌}
use Rattle.std.specs.Prelude.{Some, None}
use Rattle.opa_case.specs.declared.change.Refusal.TheVariants.{Limit}
use Rattle.opa_saved.proofs.refusals.full_refusal.Goals as goal

pub returns-then-is_full : goal.returns-then-is_full
returns-then-is_full c = ap (λ b. cond b (Some Limit) None) (sym c.if-is_full.true ∙ c.is_full.ensures c.args.living.now refl)

pub returns-else-is_full : goal.returns-else-is_full
returns-else-is_full c = ap (λ b. cond b (Some Limit) None) (sym c.if-is_full.false ∙ c.is_full.ensures c.args.living.now refl)
