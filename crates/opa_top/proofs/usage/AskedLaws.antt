-- What positional words ask for.
use Rattle.std.proofs.Common.{◌≡◌, ◌<◌, ◌≤◌, ℕ, List, [], ◌∷◌, length, refl, sym, ap, ◌∙◌, arith, slice_get}
use Rattle.std.specs.Prelude.{drop, Option, None, Some, Err, IsErrOf}
use Rattle.std.specs.Option.{option_and_then}
use Rattle.opa_top.specs.Usage.Asked.{asked_by, asked_in, asked_of, report_of}
use Rattle.opa_top.specs.Usage.Words.{positionals}

by_places : (ps : List (List ℕ)) → length ps ≤ 3 → asked_in ps ≡ asked_by (slice_get ps 0) (slice_get ps 1) (slice_get ps 2)
by_places [] few = refl
by_places (a ∷ []) few = refl
by_places (a ∷ b ∷ []) few = refl
by_places (a ∷ b ∷ c ∷ []) few = refl
by_places (a ∷ b ∷ c ∷ d ∷ rest) few = absurd (omega (arith, few))

too_many : (ps : List (List ℕ)) → 3 < length ps → asked_in ps ≡ None
too_many [] many = absurd (omega (arith, many))
too_many (a ∷ []) many = refl
too_many (a ∷ b ∷ []) many = absurd (omega (arith, many))
too_many (a ∷ b ∷ c ∷ []) many = absurd (omega (arith, many))
too_many (a ∷ b ∷ c ∷ d ∷ rest) many = refl

pub asks : (words ps : List (List ℕ)) (m r n : Option (List ℕ)) → positionals (drop 1 words) ≡ Some ps → length ps ≤ 3 → m ≡ slice_get ps 0 → r ≡ slice_get ps 1 → n ≡ slice_get ps 2 → asked_of words ≡ asked_by m r n
asks words ps m r n is few first second third =
    ap (λ o. option_and_then asked_in o) is ∙ by_places ps few ∙ ap (λ o. asked_by o (slice_get ps 1) (slice_get ps 2)) (sym first)
    ∙ ap (λ o. asked_by m o (slice_get ps 2)) (sym second) ∙ ap (λ o. asked_by m r o) (sym third)

pub third : (words ps : List (List ℕ)) (n : Option (List ℕ)) → positionals (drop 1 words) ≡ Some ps → n ≡ slice_get ps 2 → report_of words ≡ n
third words ps n is e = ap (λ o. option_and_then (λ qs. slice_get qs 2) o) is ∙ sym e

nothing : (o : Option (List (List ℕ))) → ((ps : List (List ℕ)) → o ≡ Some ps → 3 < length ps) → option_and_then asked_in o ≡ None
nothing None many = refl
nothing (Some ps) many = too_many ps (many ps refl)

pub asks_nothing : (words : List (List ℕ)) → ((ps : List (List ℕ)) → positionals (drop 1 words) ≡ Some ps → 3 < length ps) → asked_of words ≡ None
asks_nothing words many = nothing (positionals (drop 1 words)) many

-- the same error of another result
pub other_error : {T U E : Type 0} (f u : E) → IsErrOf {T = T} (Err f) u → IsErrOf {T = U} (Err f) u
other_error {T} f u e = let same : f ≡ u = cc e in ap Err same
