-- What dismissing a listener prints and leaves.
use Rattle.std.specs.Prelude.{◌≡◌, ℕ, List, MatchOption, slice_get}
use Rattle.std.specs.List.{remove}
use Rattle.opa_listen.specs.Hearing.{Hearer, words_of}
use Rattle.opa_reply.specs.Refused.{refused_dismiss}

-- The listener with the number says its last words and goes; where there is none, that is refused, and all stay.
abbrev pub IsDismissed : List Hearer → ℕ → List ℕ → List Hearer → Type 0
IsDismissed hearers n text left = MatchOption (slice_get hearers n) ((text ≡ refused_dismiss) × (left ≡ hearers)) (λ h. (text ≡ words_of h) × (left ≡ remove hearers n))
