-- The last of the lines of a call.
use Rattle.std.proofs.Common.{◌≡◌, List, [], ◌∷◌, ◌++◌, refl, ap}
use Rattle.opa_sentence.specs.declared.reading.Reading.{Reading}
use Rattle.opa_sentence.specs.declared.reading.Parts.{Parts}
use Rattle.opa_sentence.specs.Measures.{bounded}
use Rattle.opa_sentence.specs.Readings.{last_line, but_last, gathered, lines, no_parts, with_part}

pub last_is : (rs : List Reading) (r : Reading) → last_line bounded (rs ++ r ∷ []) ≡ r
last_is [] r = refl
last_is (s ∷ []) r = refl
last_is (s ∷ t ∷ rs) r = last_is (t ∷ rs) r

pub others_are : (rs : List Reading) (r : Reading) → but_last (rs ++ r ∷ []) ≡ rs
others_are [] r = refl
others_are (s ∷ []) r = refl
others_are (s ∷ t ∷ rs) r = ap (λ x. s ∷ x) (others_are (t ∷ rs) r)

gathered_more : (p : Parts) (rs : List Reading) (r : Reading) → gathered bounded p (rs ++ r ∷ []) ≡ with_part bounded (gathered bounded p rs) r
gathered_more p [] r = refl
gathered_more p (s ∷ rs) r = gathered_more (with_part bounded p s) rs r

pub gathered_last : (rs : List Reading) (r : Reading) → lines bounded (rs ++ r ∷ []) ≡ with_part bounded (lines bounded rs) r
gathered_last rs r = gathered_more (no_parts bounded) rs r

pub ruleset ends = (last_is, others_are)
