-- The phrase that is the longest at the front of lexemes.
use Rattle.std.proofs.Common.{◌≡◌, ◌≢◌, ◌<◌, ◌≤◌, ◌+◌, ℕ, zero, suc, List, [], length, Bool, true, false, Some, None, slice_get, refl, sym, ap, subst, ◌∙◌, arith}
use Rattle.std.specs.Prelude.{nat_lt, AllPairs}
use Rattle.std.specs.Option.{option_map, option_or}
use Rattle.std.proofs.lemmas.Option.{slice_get_within, get_or_from_slice_get}
use Rattle.opa_words.specs.Phrases.{first_position}
use Rattle.opa_sentence.specs.Lexemes.{Lexeme}
use Rattle.opa_sentence.specs.Phrases.{front_text, phrase_at, longest_within, longest}
use Rattle.opa_sentence.proofs.LongestLaws.{first_at, no_first}

-- ---- where a text stands

-- where all differ, a text stands at one place
abbrev pub AllDiffer : List (List ℕ) → Type 0
AllDiffer ps = AllPairs (λ p q. p ≢ q) ps

pub one_place : (ps : List (List ℕ)) → AllDiffer ps → (t : List ℕ) (i j : ℕ) → slice_get ps i ≡ Some t → j < i → slice_get ps j ≡ Some t → ⊥
one_place ps h t i j at below other = h j i [] below (slice_get_within ps i t at) (get_or_from_slice_get ps j t [] other ∙ sym (get_or_from_slice_get ps i t [] at))

pub place_of : (ps : List (List ℕ)) → AllDiffer ps → (t : List ℕ) (i : ℕ) → slice_get ps i ≡ Some t → first_position t 0 ps ≡ Some i
place_of ps h t i at = first_at t 0 ps i at (λ j below other. one_place ps h t i j at below other) ∙ ap (λ n. Some n) (let e : 0 + i ≡ i = omega arith in e)

-- ---- the longest

-- so many lexemes at the front have the text of the phrase at this place, and no more of them have a phrase's
pub record IsForemost (ps : List (List ℕ)) (ts : List Lexeme) (i n : ℕ) : Type 0 where
  pub some : 0 < n
  pub all : n ≤ length ts
  pub first : first_position (front_text n ts) 0 ps ≡ Some i
  pub no_more : (k : ℕ) → n < k → k ≤ length ts → (j : ℕ) → slice_get ps j ≡ Some (front_text k ts) → ⊥

none_longer : (ps : List (List ℕ)) (ts : List Lexeme) (i n k : ℕ) → IsForemost ps ts i n → n < k → k ≤ length ts → phrase_at ps k ts ≡ None
none_longer ps ts i n k h low high = ap (option_map (λ j. (j, k))) (no_first (front_text k ts) 0 ps (h.no_more k low high))

foremost_within : (ps : List (List ℕ)) (ts : List Lexeme) (i n : ℕ) → IsForemost ps ts i n → (k : ℕ) → n ≤ k → k ≤ length ts → longest_within ps k ts ≡ Some (i, n)
foremost_within ps ts i n h zero low high = absurd (omega (arith, low, h.some))
foremost_within ps ts i n h (suc k) low high = go (nat_lt n (suc k)) refl (λ l. foremost_within ps ts i n h k l (omega (arith, high)))
  where
    go : (b : Bool) → nat_lt n (suc k) ≡ b → (n ≤ k → longest_within ps k ts ≡ Some (i, n)) → longest_within ps (suc k) ts ≡ Some (i, n)
    go true e r =
        let more : n < suc k = grind (arith, e) in
        ap (λ o. option_or o (longest_within ps k ts)) (none_longer ps ts i n (suc k) h more high) ∙ r (omega (arith, more))
    go false e r =
        let same : n ≡ suc k = grind (arith, e, low) in
        let found : phrase_at ps n ts ≡ Some (i, n) = ap (option_map (λ j. (j, n))) h.first in
        ap (λ o. option_or o (longest_within ps k ts)) (subst (λ l. phrase_at ps l ts ≡ Some (i, n)) same found)

pub foremost_is_longest : (ps : List (List ℕ)) (ts : List Lexeme) (i n : ℕ) → IsForemost ps ts i n → longest ps ts ≡ Some (i, n)
foremost_is_longest ps ts i n h = foremost_within ps ts i n h (length ts) h.all (omega arith)
