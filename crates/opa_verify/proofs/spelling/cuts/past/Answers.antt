use Rattle.std.proofs.Common.{◌≡◌, ◌++◌, ℕ, List, MatchOption, subst}
use Rattle.opa_verify.proofs.spelling.cuts.past.Goals as goal

pub returns : goal.returns
returns c = subst (λ f. MatchOption c.past_bytes.result ((rest : List ℕ) → c.args.text.now ≡ f ++ rest → ⊥) (λ rest. c.args.text.now ≡ f ++ rest.now)) c.as_bytes.ensures.value c.past_bytes.ensures
