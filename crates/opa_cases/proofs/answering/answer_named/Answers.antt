use Rattle.std.proofs.Common.{inl, refl, sym, ◌∙◌}
use Rattle.opa_cases.proofs.answering.answer_named.Goals as goal

pub returns-then-is_full : goal.returns-then-is_full
returns-then-is_full g c = λ files. inl (sym c.is_full.ensures ∙ c.if-is_full.true, c.in_ok-text.ensures, refl)
