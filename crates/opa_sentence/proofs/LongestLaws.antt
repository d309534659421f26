-- The longest phrase is the one that is found.
use Rattle.std.proofs.Common.{◌≡◌, ℕ, zero, suc, ◌+◌, ◌<◌, ◌≤◌, List, [], ◌∷◌, length, take, drop, map, Bool, true, false, cond, Option, Some, None, MatchOption, slice_get, refl, sym, ap, subst, ◌∙◌, arith}
use Rattle.std.specs.Prelude.{nat_lt}
use Rattle.std.specs.Option.{option_map, option_or}
use Rattle.std.specs.Str.{bytes_eq}
use Rattle.std.proofs.lemmas.List.{take-map, drop-map}
use Rattle.std.proofs.lemmas.Simd.{map-map}
use Rattle.std.proofs.lemmas.Slice.Eq.{bytes_eq-Decides}
use Rattle.opa_words.specs.declared.kinds.Token.{Token}
use Rattle.opa_words.specs.Reserved.{joined, phrase_text}
use Rattle.opa_words.specs.Phrases as words
use Rattle.opa_words.specs.Phrases.{IsLongestPhrase, NoneIsSpelled, first_position}
use Rattle.opa_sentence.specs.Lexemes.{Lexeme, lexeme, lexemes}
use Rattle.opa_sentence.specs.Phrases.{front_text, phrase_at, longest_within, longest}

-- ---- the first position of a text

pub first_at : (t : List ℕ) (k : ℕ) (ps : List (List ℕ)) (i : ℕ) → slice_get ps i ≡ Some t → ((j : ℕ) → j < i → slice_get ps j ≡ Some t → ⊥) → first_position t k ps ≡ Some (k + i)
first_at t k [] i at none = absurd (cc at)
first_at t k (p ∷ ps) zero at none = ap (λ b. cond b (Some k) (first_position t (k + 1) ps)) ((bytes_eq-Decides t p).1 (let e : p ≡ t = cc at in sym e)) ∙ ap (λ n. Some n) (let e : k ≡ k + 0 = omega arith in e)
first_at t k (p ∷ ps) (suc i) at none = go (bytes_eq t p) refl (first_at t (k + 1) ps i at (λ j below h. none (suc j) (omega (arith, below)) h))
  where
    go : (b : Bool) → bytes_eq t p ≡ b → first_position t (k + 1) ps ≡ Some (k + 1 + i) → cond b (Some k) (first_position t (k + 1) ps) ≡ Some (k + suc i)
    go true e r = absurd (none 0 (omega arith) (ap (λ x. Some x) (sym ((bytes_eq-Decides t p).0 e))))
    go false e r = r ∙ ap (λ n. Some n) (let f : k + 1 + i ≡ k + suc i = omega arith in f)

pub no_first : (t : List ℕ) (k : ℕ) (ps : List (List ℕ)) → ((j : ℕ) → slice_get ps j ≡ Some t → ⊥) → first_position t k ps ≡ None
no_first t k [] none = refl
no_first t k (p ∷ ps) none = go (bytes_eq t p) refl (no_first t (k + 1) ps (λ j h. none (suc j) h))
  where
    go : (b : Bool) → bytes_eq t p ≡ b → first_position t (k + 1) ps ≡ None → cond b (Some k) (first_position t (k + 1) ps) ≡ None
    go true e r = absurd (none 0 (ap (λ x. Some x) (sym ((bytes_eq-Decides t p).0 e))))
    go false e r = r

-- ---- the texts of fronts

pub same_front : (bytes : List ℕ) (ts : List Token) (n : ℕ) → front_text n (lexemes bytes ts) ≡ phrase_text bytes (take n ts)
same_front bytes ts n = ap (λ ls. joined (map (λ (t : Lexeme). t.text) ls)) (take-map (lexeme bytes) n ts) ∙ ap joined (map-map (λ (t : Lexeme). t.text) (lexeme bytes) (take n ts))

module _ (bytes : List ℕ) where
  seen_length : (ts : List Token) → length (lexemes bytes ts) ≡ length ts
  seen_length [] = refl
  seen_length (t ∷ ts) = ap suc (seen_length ts)

  pub seen_drop : (n : ℕ) (ts : List Token) → lexemes bytes (drop n ts) ≡ drop n (lexemes bytes ts)
  seen_drop n ts = sym (drop-map (lexeme bytes) n ts)

module _ (ps : List (List ℕ)) (bytes : List ℕ) (ts : List Token) where
  none_at : (m : ℕ) → ((j : ℕ) (other : List ℕ) → slice_get ps j ≡ Some other → words.Spells bytes ts other m → ⊥) → 0 < m → m ≤ length ts → phrase_at ps m (lexemes bytes ts) ≡ None
  none_at m none low high =
      ap (option_map (λ i. (i, m))) (ap (λ t. first_position t 0 ps) (same_front bytes ts m) ∙ no_first (phrase_text bytes (take m ts)) 0 ps (λ j at. none j (phrase_text bytes (take m ts)) at (low, high, refl)))

  none_within : NoneIsSpelled ps bytes ts → (m : ℕ) → m ≤ length ts → longest_within ps m (lexemes bytes ts) ≡ None
  none_within none zero high = refl
  none_within none (suc m) high =
      ap (λ o. option_or o (longest_within ps m (lexemes bytes ts))) (none_at (suc m) (λ j other at s. none j (suc m) other at s) (omega arith) high) ∙ none_within none m (omega (arith, high))

  found_at : (i n : ℕ) → IsLongestPhrase ps bytes ts i n → phrase_at ps n (lexemes bytes ts) ≡ Some (i, n)
  found_at i n h =
      let spelled : h.phrase ≡ phrase_text bytes (take n ts) = h.spells.2 in
      ap (option_map (λ j. (j, n))) (ap (λ t. first_position t 0 ps) (same_front bytes ts n)
      ∙ first_at (phrase_text bytes (take n ts)) 0 ps i (h.at ∙ ap (λ t. Some t) spelled) (λ j below at. h.first j (phrase_text bytes (take n ts)) below at (h.spells.0, h.spells.1, refl))
      ∙ ap (λ j. Some j) (let e : 0 + i ≡ i = omega arith in e))

  found_within : (i n : ℕ) → IsLongestPhrase ps bytes ts i n → (m : ℕ) → n ≤ m → m ≤ length ts → longest_within ps m (lexemes bytes ts) ≡ Some (i, n)
  found_within i n h zero low high = absurd (omega (arith, low, h.spells.0))
  found_within i n h (suc m) low high = go (nat_lt n (suc m)) refl (λ l. found_within i n h m l (omega (arith, high)))
    where
      go : (b : Bool) → nat_lt n (suc m) ≡ b → (n ≤ m → longest_within ps m (lexemes bytes ts) ≡ Some (i, n)) → longest_within ps (suc m) (lexemes bytes ts) ≡ Some (i, n)
      go true e r =
          let more : n < suc m = grind (arith, e) in
          ap (λ o. option_or o (longest_within ps m (lexemes bytes ts))) (none_at (suc m) (λ j other at s. let k : suc m ≤ n = h.longest j (suc m) other at s in absurd (omega (arith, k, more))) (omega arith) high)
          ∙ r (omega (arith, more))
      go false e r =
          let same : n ≡ suc m = grind (arith, e, low) in
          ap (λ o. option_or o (longest_within ps m (lexemes bytes ts))) (subst (λ k. phrase_at ps k (lexemes bytes ts) ≡ Some (i, n)) same (found_at i n h))

  length_seen : length (lexemes bytes ts) ≡ length ts
  length_seen = seen_length bytes ts

  pub longest_is : (o : Option (ℕ × ℕ)) → MatchOption o (NoneIsSpelled ps bytes ts) (λ x. IsLongestPhrase ps bytes ts x.0 x.1) → o ≡ longest ps (lexemes bytes ts)
  longest_is None h = sym (ap (λ n. longest_within ps n (lexemes bytes ts)) length_seen ∙ none_within h (length ts) (omega arith))
  longest_is (Some x) h = sym (ap (λ n. longest_within ps n (lexemes bytes ts)) length_seen ∙ found_within x.0 x.1 h (length ts) h.spells.1 (omega arith))
