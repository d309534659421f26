use Rattle.std.proofs.Common.{◌≡◌, ◌++◌, ℕ, List, MatchOption, subst}
use Rattle.opa_verify.proofs.spelling.cuts.before.Goals as goal

pub returns : goal.returns
returns c = subst (λ f. MatchOption c.before_bytes.result ((first : List ℕ) → c.args.text.now ≡ first ++ f → ⊥) (λ first. c.args.text.now ≡ first.now ++ f)) c.as_bytes.ensures.value c.before_bytes.ensures
