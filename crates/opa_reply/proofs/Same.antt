-- What is held is the same where each part of it is.
use Rattle.std.proofs.Common.{◌≡◌, ◌∙◌, ℕ, List, ap}
use Rattle.std.specs.Prelude.{Option}
use Rattle.opa_io.specs.Outside.{Files}
use Rattle.opa_case.specs.Cases.{CaseView}
use Rattle.opa_listen.specs.Hearing.{Hearer}
use Rattle.opa_tree.specs.declared.rulebase.Rulebase.{Rulebase}
use Rattle.opa_reply.specs.Held.{held}

pub same_held : (r r' : Rulebase) (c c' : CaseView) (n n' : ℕ) (hs hs' : List Hearer) (f f' : Option Files) (d d' : ℕ) → r' ≡ r → c' ≡ c → n' ≡ n → hs' ≡ hs → f' ≡ f → d' ≡ d
    → held r' c' n' hs' f' d' ≡ held r c n hs f d
same_held r r' c c' n n' hs hs' f f' d d' er ec en eh ef ed =
    ap (λ x. held x c' n' hs' f' d') er ∙ ap (λ x. held r x n' hs' f' d') ec ∙ ap (λ x. held r c x hs' f' d') en ∙ ap (λ x. held r c n x f' d') eh ∙ ap (λ x. held r c n hs x d') ef ∙ ap (λ x. held r c n hs f x) ed
