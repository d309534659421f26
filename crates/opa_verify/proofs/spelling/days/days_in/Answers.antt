use Rattle.std.proofs.Common.{ℕ, List, MatchOption, sym, subst}
use Rattle.opa_verify.specs.Spelling.Reading.{AreDays}
use Rattle.opa_verify.proofs.spelling.Daying.{no_blank}
use Rattle.opa_verify.proofs.spelling.days.days_in.Goals as goal

pub returns-in-None : goal.returns-in-None
returns-in-None c = no_blank c.args.text.now c.in-None.ensures

pub returns-in-Some : goal.returns-in-Some
returns-in-Some c = subst (λ t. MatchOption c.first_day_in.result ((s u : ℕ) (told : List ℕ) → AreDays s u told t → ⊥) (λ x. AreDays x.0 x.1 x.2.now t)) (sym c.in-Some.ensures) c.first_day_in.ensures
