-- The place of a text among texts.
use Rattle.std.proofs.Common.{◌≡◌, ◌∙◌, ◌<◌, ◌+◌, ℕ, suc, List, [], ◌∷◌, length, Bool, true, false, cond, refl, sym, ap, arith}
use Rattle.std.specs.Prelude.{Option, Some, None, nat_lt, slice_get, unwrap_or}
use Rattle.std.specs.Str.{bytes_eq}
use Rattle.std.proofs.lemmas.Slice.Eq.{bytes_eq-Decides}
use Rattle.std.proofs.lemmas.Bool.{ltb-true}
use Rattle.std.proofs.lemmas.Option.{slice_get_within}
use Rattle.opa_words.specs.Phrases.{first_position}
use Rattle.opa_decl.specs.Names.{place}

-- the text stands at its first position
pub stands_at : (t : List ℕ) (k : ℕ) (ps : List (List ℕ)) (i : ℕ) → first_position t k ps ≡ Some i → (j : ℕ) × (i ≡ k + j) × (slice_get ps j ≡ Some t)
stands_at t k [] i h = absurd (cc h)
stands_at t k (p ∷ ps) i h = go (bytes_eq t p) refl h (stands_at t (k + 1) ps i)
  where
    go : (b : Bool) → bytes_eq t p ≡ b → cond b (Some k) (first_position t (k + 1) ps) ≡ Some i → (first_position t (k + 1) ps ≡ Some i → (j : ℕ) × (i ≡ k + 1 + j) × (slice_get ps j ≡ Some t))
        → (j : ℕ) × (i ≡ k + j) × (slice_get (p ∷ ps) j ≡ Some t)
    go true e f r = (0, (let g : k ≡ i = cc f in omega (arith, g)), ap (λ (x : List ℕ). Some x) (sym ((bytes_eq-Decides t p).0 e)))
    go false e f r = let q = r f in (suc q.0, omega (arith, q.1), q.2)

pub position_within : (t : List ℕ) (ps : List (List ℕ)) (i : ℕ) → first_position t 0 ps ≡ Some i → i < length ps
position_within t ps i h =
    let q = stands_at t 0 ps i h in
    let below : q.0 < length ps = slice_get_within ps q.0 t q.2 in
    omega (arith, q.1, below)

-- a text that is declared stands at its place
pub place_found : (names : List (List ℕ)) (t : List ℕ) → nat_lt (place names t) (length names) ≡ true → slice_get names (place names t) ≡ Some t
unfolding place
place_found names t = go (first_position t 0 names) refl
  where
    go : (o : Option ℕ) → first_position t 0 names ≡ o → nat_lt (unwrap_or o (length names)) (length names) ≡ true → slice_get names (unwrap_or o (length names)) ≡ Some t
    go None e h = absurd (omega (arith, ltb-true (length names) (length names) h))
    go (Some i) e h = let q = stands_at t 0 names i e in let same : q.0 ≡ i = omega (arith, q.1) in ap (slice_get names) (sym same) ∙ q.2
