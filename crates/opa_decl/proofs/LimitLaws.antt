-- One item of a comma list, and the others.
use Rattle.std.proofs.Common.{◌≡◌, ◌<◌, ◌-◌, ℕ, zero, suc, List, ap, arith}
use Rattle.std.specs.Option.{option_and_then}
use Rattle.opa_words.specs.declared.kinds.Token.{Token}
use Rattle.opa_decl.specs.declared.limits.Limits.{Limits}
use Rattle.opa_decl.specs.Limits.{limit, limits, ends_or}

pub limits_more : (bytes : List ℕ) (left most : ℕ) (l : Limits) (ts : List Token) → 0 < left → limits bytes left most l ts ≡ option_and_then (ends_or bytes (limits bytes (left - 1) most)) (limit bytes most l ts)
limits_more bytes zero most l ts h = absurd (omega (arith, h))
limits_more bytes (suc n) most l ts h = ap (λ (m : ℕ). option_and_then (ends_or bytes (limits bytes m most)) (limit bytes most l ts)) (let e : n ≡ suc n - 1 = omega arith in e)
