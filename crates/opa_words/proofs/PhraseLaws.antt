-- The longest phrase.
use Rattle.std.proofs.Common.{◌≡◌, ◌≤◌, ◌<◌, ◌+◌, ℕ, zero, suc, List, [], ◌∷◌, ◌++◌, length, take, drop, Bool, true, false, cond, refl, sym, ap, subst, ◌∙◌, arith, append-nil}
use Rattle.std.specs.Prelude.{Option, Some, None, MatchOption, ◌==◌, nat_lt, slice_get}
use Rattle.std.specs.Option.{option_map}
use Rattle.std.specs.Str.{bytes_eq}
use Rattle.std.proofs.lemmas.Slice.Eq.{bytes_eq-Decides}
use Rattle.std.proofs.lemmas.List.{take-append-drop}
use Rattle.std.proofs.Math.Seq.{drop-append_seam, take-append_seam}
use Rattle.opa_words.specs.declared.kinds.Token.{Token}
use Rattle.opa_words.specs.Places.{token_text}
use Rattle.opa_words.specs.Reserved.{phrase_text}
use Rattle.opa_words.specs.Phrases.{Spells, IsLongestPhrase, NoneIsSpelled, after_front, go_on, spelled, longer, at_position, longest_from}

longer_assoc : (x y z : Option (ℕ × ℕ)) → longer (longer x y) z ≡ longer x (longer y z)
longer_assoc None y z = refl
longer_assoc (Some a) None z = refl
longer_assoc (Some a) (Some b) None = none (nat_lt a.1 b.1)
  where
    none : (t : Bool) → longer (cond t (Some b) (Some a)) None ≡ cond t (Some b) (Some a)
    none true = refl
    none false = refl
longer_assoc (Some a) (Some b) (Some c) = three (nat_lt a.1 b.1) (nat_lt b.1 c.1) (nat_lt a.1 c.1) refl refl refl
  where
    three : (p q r : Bool) → nat_lt a.1 b.1 ≡ p → nat_lt b.1 c.1 ≡ q → nat_lt a.1 c.1 ≡ r → longer (cond p (Some b) (Some a)) (Some c) ≡ longer (Some a) (cond q (Some c) (Some b))
    three true true true ep eq er = ap (λ t. cond t (Some c) (Some b)) eq ∙ sym (ap (λ t. cond t (Some c) (Some a)) er)
    three true true false ep eq er = absurd (grind (arith, ep, eq, er))
    three true false r ep eq er = ap (λ t. cond t (Some c) (Some b)) eq ∙ sym (ap (λ t. cond t (Some b) (Some a)) ep)
    three false true r ep eq er = refl
    three false false true ep eq er = absurd (grind (arith, ep, eq, er))
    three false false false ep eq er = ap (λ t. cond t (Some c) (Some a)) er ∙ sym (ap (λ t. cond t (Some b) (Some a)) ep)

pub longer_more : (best all : Option (ℕ × ℕ)) (bytes : List ℕ) (ts : List Token) (k : ℕ) (p : List ℕ) (ps rest : List (List ℕ)) → rest ≡ p ∷ ps → longer best (longest_from bytes ts k rest) ≡ all
    → longer (longer best (at_position k (spelled bytes ts p))) (longest_from bytes ts (k + 1) ps) ≡ all
longer_more best all bytes ts k p ps rest e h = longer_assoc best (at_position k (spelled bytes ts p)) (longest_from bytes ts (k + 1) ps) ∙ ap (λ r. longer best (longest_from bytes ts k r)) (sym e) ∙ h

pub longer_none : (o : Option (ℕ × ℕ)) → longer o None ≡ o
longer_none None = refl
longer_none (Some x) = refl

-- ---- what spells a phrase

front_is : (front bytes rest : List ℕ) → after_front front bytes ≡ Some rest → bytes ≡ front ++ rest
front_is front bytes rest h = go (bytes_eq (take (length front) bytes) front) refl h
  where
    go : (t : Bool) → bytes_eq (take (length front) bytes) front ≡ t → cond t (Some (drop (length front) bytes)) None ≡ Some rest → bytes ≡ front ++ rest
    go true e k = sym (take-append-drop (length front) bytes) ∙ ap (λ x. x ++ drop (length front) bytes) ((bytes_eq-Decides (take (length front) bytes) front).0 e) ∙ ap (λ x. front ++ x) (let f : drop (length front) bytes ≡ rest = cc k in f)
    go false e k = absurd (cc k)

front_of : (front rest : List ℕ) → after_front front (front ++ rest) ≡ Some rest
front_of front rest =
    ap (λ t. cond t (Some (drop (length front) (front ++ rest))) None) ((bytes_eq-Decides (take (length front) (front ++ rest)) front).1 (take-append_seam front rest))
    ∙ ap (λ x. Some x) (drop-append_seam front rest)

-- a word more
joined_more : (bytes : List ℕ) (t : Token) (ts : List Token) → 0 < length ts → phrase_text bytes (t ∷ ts) ≡ token_text bytes t ++ 32 ∷ phrase_text bytes ts
joined_more bytes t [] h = absurd (omega (arith, h))
joined_more bytes t (u ∷ ts) h = refl

taken : (m : ℕ) (ts : List Token) → 0 < m → m ≤ length ts → 0 < length (take m ts)
taken zero ts h l = absurd (omega (arith, h))
taken (suc m) [] h l = absurd (omega (arith, l))
taken (suc m) (t ∷ ts) h l = omega arith

spells_more : (bytes : List ℕ) (t : Token) (ts : List Token) (rest : List ℕ) (m : ℕ) → Spells bytes ts rest m → Spells bytes (t ∷ ts) (token_text bytes t ++ 32 ∷ rest) (suc m)
spells_more bytes t ts rest m h = (omega arith, omega (arith, h.1), ap (λ r. token_text bytes t ++ 32 ∷ r) h.2 ∙ sym (joined_more bytes t (take m ts) (taken m ts h.0 h.1)))

spells_one : (bytes : List ℕ) (t : Token) (ts : List Token) → Spells bytes (t ∷ ts) (token_text bytes t) 1
spells_one bytes t ts = (omega arith, omega arith, refl)

counted : (o : Option ℕ) (n : ℕ) → option_map (λ m. m + 1) o ≡ Some n → (m : ℕ) × (o ≡ Some m) × (n ≡ suc m)
counted None n h = absurd (cc h)
counted (Some m) n h = (m, refl, let e : m + 1 ≡ n = cc h in omega (arith, e))

space_is : (b : ℕ) → (b == 32) ≡ true → b ≡ 32
space_is b h = grind (arith, h)

spelled_spells : (bytes : List ℕ) (ts : List Token) (phrase : List ℕ) (n : ℕ) → spelled bytes ts phrase ≡ Some n → Spells bytes ts phrase n
spelled_spells bytes [] phrase n h = absurd (cc h)
spelled_spells bytes (t ∷ ts) phrase n h = go (after_front (token_text bytes t) phrase) refl h (spelled_spells bytes ts)
  where
    go : (o : Option (List ℕ)) → after_front (token_text bytes t) phrase ≡ o → go_on (spelled bytes ts) o ≡ Some n → ((p : List ℕ) (m : ℕ) → spelled bytes ts p ≡ Some m → Spells bytes ts p m) → Spells bytes (t ∷ ts) phrase n
    go None e k r = absurd (cc k)
    go (Some []) e k r =
        subst (Spells bytes (t ∷ ts) phrase) (let f : 1 ≡ n = cc k in f)
        (subst (λ p. Spells bytes (t ∷ ts) p 1) (sym (front_is (token_text bytes t) phrase [] e ∙ append-nil (token_text bytes t))) (spells_one bytes t ts))
    go (Some (b ∷ rest)) e k r = space (b == 32) refl k
      where
        space : (x : Bool) → (b == 32) ≡ x → cond x (option_map (λ m. m + 1) (spelled bytes ts rest)) None ≡ Some n → Spells bytes (t ∷ ts) phrase n
        space true f j =
            let c = counted (spelled bytes ts rest) n j in
            subst (Spells bytes (t ∷ ts) phrase) (sym c.2)
            (subst (λ p. Spells bytes (t ∷ ts) p (suc c.0)) (sym (front_is (token_text bytes t) phrase (b ∷ rest) e ∙ ap (λ y. token_text bytes t ++ y ∷ rest) (space_is b f))) (spells_more bytes t ts rest c.0 (r rest c.0 c.1)))
        space false f j = absurd (cc j)

spells_spelled : (bytes : List ℕ) (ts : List Token) (phrase : List ℕ) (n : ℕ) → Spells bytes ts phrase n → spelled bytes ts phrase ≡ Some n
spells_spelled bytes [] phrase n h = absurd (omega (arith, h.0, h.1))
spells_spelled bytes (t ∷ ts) phrase zero h = absurd (omega (arith, h.0))
spells_spelled bytes (t ∷ ts) phrase (suc zero) h = ap (λ p. go_on (spelled bytes ts) (after_front (token_text bytes t) p)) (h.2 ∙ sym (append-nil (token_text bytes t))) ∙ ap (go_on (spelled bytes ts)) (front_of (token_text bytes t) [])
spells_spelled bytes (t ∷ ts) phrase (suc (suc m)) h =
    let few : suc m ≤ length ts = omega (arith, h.1) in
    let is : phrase ≡ token_text bytes t ++ 32 ∷ phrase_text bytes (take (suc m) ts) = h.2 ∙ joined_more bytes t (take (suc m) ts) (taken (suc m) ts (omega arith) few) in
    let more = spells_spelled bytes ts (phrase_text bytes (take (suc m) ts)) (suc m) (omega arith, few, refl) in
    ap (λ p. go_on (spelled bytes ts) (after_front (token_text bytes t) p)) is
    ∙ ap (go_on (spelled bytes ts)) (front_of (token_text bytes t) (32 ∷ phrase_text bytes (take (suc m) ts)))
    ∙ ap (option_map (λ n. n + 1)) more ∙ (let e : Some (suc m + 1) ≡ Some (suc (suc m)) = ap (λ n. Some n) (omega arith) in e)

-- ---- the longest

not_spelled : (bytes : List ℕ) (ts : List Token) (p : List ℕ) (m : ℕ) → spelled bytes ts p ≡ None → Spells bytes ts p m → ⊥
not_spelled bytes ts p m e h = let f : None ≡ Some m = sym e ∙ spells_spelled bytes ts p m h in absurd (cc f)

same_count : (bytes : List ℕ) (ts : List Token) (p : List ℕ) (n m : ℕ) → spelled bytes ts p ≡ Some n → Spells bytes ts p m → n ≡ m
same_count bytes ts p n m e h = let f : Some n ≡ Some m = sym e ∙ spells_spelled bytes ts p m h in cc f

abbrev IsAnswer : List ℕ → List Token → ℕ → List (List ℕ) → Option (ℕ × ℕ) → Type 0
IsAnswer bytes ts k ps None = NoneIsSpelled ps bytes ts
IsAnswer bytes ts k ps (Some x) = (j : ℕ) × (x.0 ≡ k + j) × IsLongestPhrase ps bytes ts j x.1

module _ (bytes : List ℕ) (ts : List Token) where
  none_more : (p : List ℕ) (ps : List (List ℕ)) → spelled bytes ts p ≡ None → NoneIsSpelled ps bytes ts → NoneIsSpelled (p ∷ ps) bytes ts
  none_more p ps e h zero m other at s = not_spelled bytes ts other m (ap (spelled bytes ts) (let f : other ≡ p = cc at in f) ∙ e) s
  none_more p ps e h (suc j) m other at s = h j m other at s

  -- the first is not longer, and the answer is among the others
  later : (p : List ℕ) (ps : List (List ℕ)) (j n : ℕ) → ((m : ℕ) → Spells bytes ts p m → m < n) → IsLongestPhrase ps bytes ts j n → IsLongestPhrase (p ∷ ps) bytes ts (suc j) n
  later p ps j n short h = record {
    phrase = h.phrase;
    at = h.at;
    spells = h.spells;
    longest = long;
    first = early;
  }
    where
      as_first : (other : List ℕ) (m : ℕ) → Some p ≡ Some other → Spells bytes ts other m → m < n
      as_first other m at s = short m (subst (λ q. Spells bytes ts q m) (let f : other ≡ p = cc at in f) s)

      long : (i m : ℕ) (other : List ℕ) → slice_get (p ∷ ps) i ≡ Some other → Spells bytes ts other m → m ≤ n
      long zero m other at s = omega (arith, as_first other m at s)
      long (suc i) m other at s = h.longest i m other at s

      early : (i : ℕ) (other : List ℕ) → i < suc j → slice_get (p ∷ ps) i ≡ Some other → Spells bytes ts other n → ⊥
      early zero other l at s = absurd (omega (arith, as_first other n at s))
      early (suc i) other l at s = h.first i other (omega (arith, l)) at s

  -- the first is the longest, and no other is longer
  first_wins : (p : List ℕ) (ps : List (List ℕ)) (n : ℕ) → spelled bytes ts p ≡ Some n → ((i m : ℕ) (other : List ℕ) → slice_get ps i ≡ Some other → Spells bytes ts other m → m ≤ n) → IsLongestPhrase (p ∷ ps) bytes ts 0 n
  first_wins p ps n e h = record {
    phrase = p;
    at = refl;
    spells = spelled_spells bytes ts p n e;
    longest = long;
    first = λ i other l at s. absurd (omega (arith, l));
  }
    where
      long : (i m : ℕ) (other : List ℕ) → slice_get (p ∷ ps) i ≡ Some other → Spells bytes ts other m → m ≤ n
      long zero m other at s = let same : n ≡ m = same_count bytes ts other n m (ap (spelled bytes ts) (let f : other ≡ p = cc at in f) ∙ e) s in omega (arith, same)
      long (suc i) m other at s = h i m other at s

  joins : (k : ℕ) (p : List ℕ) (ps : List (List ℕ)) (o : Option ℕ) (b : Option (ℕ × ℕ)) → spelled bytes ts p ≡ o → IsAnswer bytes ts (k + 1) ps b → IsAnswer bytes ts k (p ∷ ps) (longer (at_position k o) b)
  joins k p ps None None e h = none_more p ps e h
  joins k p ps None (Some b) e h = (suc h.0, omega (arith, h.1), later p ps h.0 b.1 (λ m s. absurd (not_spelled bytes ts p m e s)) h.2)
  joins k p ps (Some n) None e h = (0, omega arith, first_wins p ps n e (λ i m other at s. absurd (h i m other at s)))
  joins k p ps (Some n) (Some b) e h = go (nat_lt n b.1) refl
    where
      go : (t : Bool) → nat_lt n b.1 ≡ t → IsAnswer bytes ts k (p ∷ ps) (cond t (Some b) (Some (k, n)))
      go true f = (suc h.0, omega (arith, h.1), later p ps h.0 b.1 (λ m s. let same : n ≡ m = same_count bytes ts p n m e s in grind (arith, f, same)) h.2)
      go false f = (0, omega arith, first_wins p ps n e (λ i m other at s. let l : m ≤ b.1 = h.2.longest i m other at s in grind (arith, f, l)))

  longest_is : (k : ℕ) (ps : List (List ℕ)) → IsAnswer bytes ts k ps (longest_from bytes ts k ps)
  longest_is k [] = λ j m other at s. absurd (cc at)
  longest_is k (p ∷ ps) = joins k p ps (spelled bytes ts p) (longest_from bytes ts (k + 1) ps) refl (longest_is (k + 1) ps)

pub longest_found : (bytes : List ℕ) (ts : List Token) (ps : List (List ℕ)) (o : Option (ℕ × ℕ)) → o ≡ longest_from bytes ts 0 ps → MatchOption o (NoneIsSpelled ps bytes ts) (λ x. IsLongestPhrase ps bytes ts x.0 x.1)
longest_found bytes ts ps o e = go o (subst (IsAnswer bytes ts 0 ps) (sym e) (longest_is bytes ts 0 ps))
  where
    go : (o : Option (ℕ × ℕ)) → IsAnswer bytes ts 0 ps o → MatchOption o (NoneIsSpelled ps bytes ts) (λ x. IsLongestPhrase ps bytes ts x.0 x.1)
    go None h = h
    go (Some x) h = subst (λ i. IsLongestPhrase ps bytes ts i x.1) (let f : h.0 ≡ x.0 = omega (arith, h.1) in f) h.2

pub ruleset laws = (longer_more, longer_none)
