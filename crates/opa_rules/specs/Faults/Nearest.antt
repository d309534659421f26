-- The declared phrase that is nearest to one that isn't declared.
use Rattle.std.specs.Prelude.{ℕ, ◌/◌, max, min, nat_le, Bool, ◌==◌, ◌&&◌, if◌then◌else◌, List, [], ◌∷◌, length, reverse, find, Option}
use Rattle.std.specs.List.{list_all}

-- what is left of two texts behind the beginning that both have
abbrev pub past_same : List ℕ → List ℕ → List ℕ × List ℕ
past_same [] ys = ([], ys)
past_same (x ∷ xs) [] = (x ∷ xs, [])
past_same (x ∷ xs) (y ∷ ys) = if x == y then past_same xs ys else (x ∷ xs, y ∷ ys)

-- what is left of them, last bytes first, without the beginning and the end that both have
abbrev pub middles : List ℕ → List ℕ → List ℕ × List ℕ
middles xs ys = let left = past_same xs ys in past_same (reverse left.0) (reverse left.1)

-- how much of the longer one is left
abbrev pub difference : List ℕ → List ℕ → ℕ
difference xs ys = max (length (middles xs ys).0) (length (middles xs ys).1)

-- how much is near: two bytes, or a fifth of a text
abbrev pub nearness : List ℕ → ℕ
nearness text = max 2 (length text / 5)

-- the phrase is at most so far from the text
abbrev pub is_within : List ℕ → ℕ → List ℕ → Bool
is_within text far p = nat_le (difference text p) far

-- the phrase is near to the text, and none is nearer
abbrev pub is_nearest : List ℕ → List (List ℕ) → List ℕ → Bool
is_nearest text phrases p = is_within text (nearness text) p && list_all (λ q. nat_le (difference text p) (difference text q)) phrases

-- the first of the nearest phrases
abbrev pub nearest : List ℕ → List (List ℕ) → Option (List ℕ)
nearest text phrases = find (is_nearest text phrases) phrases

-- the least difference from a phrase, if it is below a bound
abbrev pub least : List ℕ → ℕ → List (List ℕ) → ℕ
least text bound [] = bound
least text bound (p ∷ ps) = least text (min bound (difference text p)) ps
