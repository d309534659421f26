-- The last text that is found is the longest phrase.
use Rattle.std.proofs.Common.{◌≡◌, ◌≤◌, ◌<◌, ◌+◌, ℕ, zero, suc, List, [], ◌∷◌, length, take, get_or, Bool, true, false, cond, refl, sym, ap, subst, ◌∙◌, arith}
use Rattle.std.specs.Prelude.{Option, Some, None, MatchOption, nat_lt, slice_get}
use Rattle.std.specs.Str.{bytes_eq}
use Rattle.std.specs.List.{All}
use Rattle.std.specs.Option.{option_or, is_some}
use Rattle.std.proofs.lemmas.Slice.Eq.{bytes_eq-Decides}
use Rattle.opa_words.specs.declared.kinds.Token.{Token}
use Rattle.opa_words.specs.Reserved.{phrase_text}
use Rattle.opa_words.specs.Phrases.{Spells, IsLongestPhrase, NoneIsSpelled, first_position, FindsFirst, FindsAlso, FindsNoneWider, FindsNoneFrom, IsLastFound, found_or}
use Rattle.opa_words.proofs.JoinedLaws.{text_grows}

-- ---- the first position

abbrev IsFirstPosition : List ℕ → ℕ → List (List ℕ) → ℕ → Type 0
IsFirstPosition t k ps i = (j : ℕ) × (i ≡ k + j) × (slice_get ps j ≡ Some t) × ((l : ℕ) → l < j → slice_get ps l ≡ Some t → ⊥)

other_first : (t p : List ℕ) → bytes_eq t p ≡ false → Some p ≡ Some t → ⊥
other_first t p e at =
    let same : bytes_eq t p ≡ true = (bytes_eq-Decides t p).1 (let f : t ≡ p = cc at in f) in
    let clash : false ≡ true = sym e ∙ same in absurd (cc clash)

position_found : (t : List ℕ) (k : ℕ) (ps : List (List ℕ)) (i : ℕ) → first_position t k ps ≡ Some i → IsFirstPosition t k ps i
position_found t k [] i h = absurd (cc h)
position_found t k (p ∷ ps) i h = go (bytes_eq t p) refl h (position_found t (k + 1) ps i)
  where
    go : (b : Bool) → bytes_eq t p ≡ b → cond b (Some k) (first_position t (k + 1) ps) ≡ Some i → (first_position t (k + 1) ps ≡ Some i → IsFirstPosition t (k + 1) ps i) → IsFirstPosition t k (p ∷ ps) i
    go true e f r = (0, (let g : k ≡ i = cc f in omega (arith, g)), ap (λ x. Some x) (sym ((bytes_eq-Decides t p).0 e)), λ l below at. absurd (omega (arith, below)))
    go false e f r =
        let q = r f in
        (suc q.0, omega (arith, q.1), q.2, none)
      where
        none : (l : ℕ) → l < suc (r f).0 → slice_get (p ∷ ps) l ≡ Some t → ⊥
        none zero below at = other_first t p e at
        none (suc l) below at = (r f).3 l (omega (arith, below)) at

position_none : (t : List ℕ) (k : ℕ) (ps : List (List ℕ)) → first_position t k ps ≡ None → (j : ℕ) → slice_get ps j ≡ Some t → ⊥
position_none t k [] h j at = absurd (cc at)
position_none t k (p ∷ ps) h j at = go (bytes_eq t p) refl h j at (position_none t (k + 1) ps)
  where
    go : (b : Bool) → bytes_eq t p ≡ b → cond b (Some k) (first_position t (k + 1) ps) ≡ None → (l : ℕ) → slice_get (p ∷ ps) l ≡ Some t → (first_position t (k + 1) ps ≡ None → (l : ℕ) → slice_get ps l ≡ Some t → ⊥) → ⊥
    go true e f l a r = absurd (cc f)
    go false e f zero a r = other_first t p e a
    go false e f (suc l) a r = r f l a

-- ---- positions are noted one after another

first_more : (t : List ℕ) (k n : ℕ) (ps : List (List ℕ)) (d : List ℕ) → n < length ps → first_position t k (take (suc n) ps) ≡ option_or (first_position t k (take n ps)) (cond (bytes_eq t (get_or ps n d)) (Some (k + n)) None)
first_more t k zero [] d l = absurd (omega (arith, l))
first_more t k zero (p ∷ ps) d l = ap (λ i. cond (bytes_eq t p) (Some i) None) (let e : k ≡ k + 0 = omega arith in e)
first_more t k (suc n) [] d l = absurd (omega (arith, l))
first_more t k (suc n) (p ∷ ps) d l = go (bytes_eq t p) (first_more t (k + 1) n ps d (omega (arith, l)) ∙ ap (λ i. option_or (first_position t (k + 1) (take n ps)) (cond (bytes_eq t (get_or ps n d)) (Some i) None)) (let e : k + 1 + n ≡ k + suc n = omega arith in e))
  where
    go : (b : Bool) → first_position t (k + 1) (take (suc n) ps) ≡ option_or (first_position t (k + 1) (take n ps)) (cond (bytes_eq t (get_or ps n d)) (Some (k + suc n)) None)
        → cond b (Some k) (first_position t (k + 1) (take (suc n) ps)) ≡ option_or (cond b (Some k) (first_position t (k + 1) (take n ps))) (cond (bytes_eq t (get_or ps n d)) (Some (k + suc n)) None)
    go true h = refl
    go false h = h

pub positions_more : (old new : List ℕ → Option ℕ) (ps : List (List ℕ)) (n : ℕ) (d text : List ℕ) → n < length ps → text ≡ get_or ps n d → FindsFirst old (take n ps) → FindsAlso old text n new → FindsFirst new (take (n + 1) ps)
positions_more old new ps n d text l same h also t =
    also t ∙ ap (λ o. option_or o (cond (bytes_eq t text) (Some n) None)) (h t) ∙ ap (λ x. option_or (first_position t 0 (take n ps)) (cond (bytes_eq t x) (Some n) None)) same
    ∙ ap (λ i. option_or (first_position t 0 (take n ps)) (cond (bytes_eq t (get_or ps n d)) (Some i) None)) (let e : n ≡ 0 + n = omega arith in e)
    ∙ sym (first_more t 0 n ps d l) ∙ ap (λ m. first_position t 0 (take m ps)) (let e : suc n ≡ n + 1 = omega arith in e)

either_way : (a b : List ℕ) → bytes_eq a b ≡ bytes_eq b a
either_way a b = go (bytes_eq a b) (bytes_eq b a) refl refl
  where
    go : (x y : Bool) → bytes_eq a b ≡ x → bytes_eq b a ≡ y → x ≡ y
    go true true e f = refl
    go true false e f = sym ((bytes_eq-Decides b a).1 (sym ((bytes_eq-Decides a b).0 e))) ∙ f
    go false true e f = sym e ∙ (bytes_eq-Decides a b).1 (sym ((bytes_eq-Decides b a).0 f))
    go false false e f = refl

or_none : (o : Option ℕ) → o ≡ option_or o None
or_none None = refl
or_none (Some i) = refl

is_none : (o : Option ℕ) → is_some o ≡ false → o ≡ None
is_none None h = refl
is_none (Some i) h = absurd (cc h)

-- a text that had none takes this one
pub also_new : (old new : List ℕ → Option ℕ) (text key : List ℕ) (position : ℕ) → key ≡ text → is_some (old text) ≡ false → ((t : List ℕ) → new t ≡ cond (bytes_eq key t) (Some position) (old t)) → FindsAlso old text position new
also_new old new text key position same none h t = h t ∙ ap (λ b. cond b (Some position) (old t)) (ap (λ x. bytes_eq x t) same ∙ either_way text t) ∙ go (bytes_eq t text) refl
  where
    go : (b : Bool) → bytes_eq t text ≡ b → cond b (Some position) (old t) ≡ option_or (old t) (cond b (Some position) None)
    go true e = sym (ap (λ o. option_or o (Some position)) (ap old ((bytes_eq-Decides t text).0 e) ∙ is_none (old text) none))
    go false e = or_none (old t)

-- ---- the last that is found

none_more : (find : List ℕ → Option ℕ) (bytes : List ℕ) (ts : List Token) (few n : ℕ) → FindsNoneFrom find bytes ts few n → find (phrase_text bytes (take (n + 1) ts)) ≡ None → FindsNoneFrom find bytes ts few (n + 1)
none_more find bytes ts few n h e m low high = go (nat_lt n m) refl
  where
    go : (b : Bool) → nat_lt n m ≡ b → find (phrase_text bytes (take m ts)) ≡ None
    go true f = subst (λ k. find (phrase_text bytes (take k ts)) ≡ None) (let g : n + 1 ≡ m = grind (arith, f, high) in g) e
    go false f = h m low (grind (arith, f))

-- one token more
pub found_more : (find : List ℕ → Option ℕ) (bytes : List ℕ) (ts : List Token) (n : ℕ) (best : Option (ℕ × ℕ)) (o : Option ℕ) → IsLastFound find bytes ts n best → o ≡ find (phrase_text bytes (take (n + 1) ts))
    → IsLastFound find bytes ts (n + 1) (found_or best o (n + 1))
found_more find bytes ts n None None h e = none_more find bytes ts 0 n h (sym e)
found_more find bytes ts n (Some x) None h e = (h.0, omega (arith, h.1), h.2, none_more find bytes ts x.1 n h.3 (sym e))
found_more find bytes ts n best (Some i) h e = (omega arith, omega arith, sym e, λ m low high. absurd (omega (arith, low, high)))

none_wider : (find : List ℕ → Option ℕ) (bytes : List ℕ) (ts : List Token) (widest few n many : ℕ) → FindsNoneWider find widest → widest < length (phrase_text bytes (take (n + 1) ts)) → FindsNoneFrom find bytes ts few n
    → FindsNoneFrom find bytes ts few many
none_wider find bytes ts widest few n many none wide h m low high = go (nat_lt n m) refl
  where
    go : (b : Bool) → nat_lt n m ≡ b → find (phrase_text bytes (take m ts)) ≡ None
    go true f = none (phrase_text bytes (take m ts)) (let l : n + 1 ≤ m = grind (arith, f) in omega (arith, wide, text_grows bytes ts (n + 1) m l))
    go false f = h m low (grind (arith, f))

-- a text that is too wide is the last that is looked up
pub found_all : (find : List ℕ → Option ℕ) (bytes : List ℕ) (ts : List Token) (widest n many : ℕ) (best : Option (ℕ × ℕ)) → FindsNoneWider find widest → widest < length (phrase_text bytes (take (n + 1) ts)) → n ≤ many
    → IsLastFound find bytes ts n best → IsLastFound find bytes ts many best
found_all find bytes ts widest n many None none wide l h = none_wider find bytes ts widest 0 n many none wide h
found_all find bytes ts widest n many (Some x) none wide l h = (h.0, omega (arith, h.1, l), h.2, none_wider find bytes ts widest x.1 n many none wide h.3)

-- ---- it is the longest phrase

module _ (find : List ℕ → Option ℕ) (ps : List (List ℕ)) (finds : FindsFirst find ps) (bytes : List ℕ) (ts : List Token) where
  not_spelled : (few : ℕ) → FindsNoneFrom find bytes ts few (length ts) → (j m : ℕ) (other : List ℕ) → few < m → slice_get ps j ≡ Some other → Spells bytes ts other m → ⊥
  not_spelled few h j m other low at s =
      position_none (phrase_text bytes (take m ts)) 0 ps (sym (finds (phrase_text bytes (take m ts))) ∙ h m low s.1) j (at ∙ ap (λ p. Some p) s.2)

  longest_of_found : (x : ℕ × ℕ) → IsLastFound find bytes ts (length ts) (Some x) → IsLongestPhrase ps bytes ts x.0 x.1
  longest_of_found x h =
      let f = position_found (phrase_text bytes (take x.1 ts)) 0 ps x.0 (sym (finds (phrase_text bytes (take x.1 ts))) ∙ h.2) in
      let same : f.0 ≡ x.0 = omega (arith, f.1) in
      record {
        phrase = phrase_text bytes (take x.1 ts);
        at = subst (λ i. slice_get ps i ≡ Some (phrase_text bytes (take x.1 ts))) same f.2;
        spells = (h.0, h.1, refl);
        longest = long;
        first = λ j other below at s. f.3 j (omega (arith, below, same)) (at ∙ ap (λ p. Some p) s.2);
      }
    where
      long : (j m : ℕ) (other : List ℕ) → slice_get ps j ≡ Some other → Spells bytes ts other m → m ≤ x.1
      long j m other at s = go (nat_lt x.1 m) refl
        where
          go : (b : Bool) → nat_lt x.1 m ≡ b → m ≤ x.1
          go true e = absurd (not_spelled x.1 h.3 j m other (grind (arith, e)) at s)
          go false e = grind (arith, e)

  pub last_is_longest : (o : Option (ℕ × ℕ)) → IsLastFound find bytes ts (length ts) o → MatchOption o (NoneIsSpelled ps bytes ts) (λ x. IsLongestPhrase ps bytes ts x.0 x.1)
  last_is_longest None h = λ j m other at s. not_spelled 0 h j m other s.0 at s
  last_is_longest (Some x) h = longest_of_found x h

-- ---- no text is found that is wider than the widest

narrow_at : (n : ℕ) (ps : List (List ℕ)) → All (λ t. length t ≤ n) ps → (j : ℕ) (p : List ℕ) → slice_get ps j ≡ Some p → length p ≤ n
narrow_at n [] h j p at = absurd (cc at)
narrow_at n (q ∷ ps) h zero p at = subst (λ x. length x ≤ n) (let e : q ≡ p = cc at in e) (h 0 [] (omega arith))
narrow_at n (q ∷ ps) h (suc j) p at = narrow_at n ps (λ k d l. h (suc k) d (omega (arith, l))) j p at

pub finds_none_wider : (find : List ℕ → Option ℕ) (ps : List (List ℕ)) (widest : ℕ) → FindsFirst find ps → All (λ t. length t ≤ widest) ps → FindsNoneWider find widest
finds_none_wider find ps widest finds narrow t wide = go (find t) refl
  where
    go : (o : Option ℕ) → find t ≡ o → o ≡ None
    go None e = refl
    go (Some i) e =
        let f = position_found t 0 ps i (sym (finds t) ∙ e) in
        absurd (omega (arith, wide, narrow_at widest ps narrow f.0 t f.2))
