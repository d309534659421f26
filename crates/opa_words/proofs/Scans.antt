-- What each scan finds is a token, and it goes as far as any token of the kind.
use Rattle.std.proofs.Common.{◌≡◌, ◌≤◌, ℕ, zero, suc, List, [], ◌∷◌, ◌++◌, length, Bool, true, false, cond, refl, sym, ap, subst, ◌∙◌, arith, inl, inr, append_assoc}
use Rattle.std.specs.Prelude.{Option, Some, None, ◌&&◌, ◌||◌, ◌==◌, ◌⊎◌}
use Rattle.std.specs.List.{list_all, list_any}
use Rattle.std.specs.Option.{option_map, option_or}
use Rattle.std.proofs.lemmas.Bool.{and_from}
use Rattle.opa_io.proofs.Characters.{quote_is}
use Rattle.opa_io.proofs.Bools.{and_first, and_second, neither_first, neither_second}
use Rattle.opa_words.specs.declared.kinds.TokenKind.{TokenKind}
use Rattle.opa_words.specs.declared.kinds.TokenKind.TheVariants as kind
use Rattle.opa_words.specs.Characters.{begins_word, continues_word, is_digit, is_control}
use Rattle.opa_words.specs.Kinds.{IsToken, is_date, is_word, is_symbol, is_single, doubled, quoted, AreDigits, IsNumber, IsText}
use Rattle.opa_words.specs.Scan.{past, one, digit, hyphen, point, fraction, whole, word, past_most, number, date, inside, text, second, symbol, ◌>>=◌}
use Rattle.opa_words.proofs.Letters.{DateParts, date_parts}

-- there is one, and no longer rest than this
abbrev pub AtMost : Option (List ℕ) → ℕ → Type 0
AtMost None n = ⊥
AtMost (Some cs) n = length cs ≤ n

-- ---- characters that pass

step : (p : ℕ → Bool) (c : ℕ) (cs : List ℕ) → p c ≡ true → one p (c ∷ cs) ≡ Some cs
step p c cs h = ap (λ t. cond t (Some cs) None) h

-- the first character, and what follows it
pub record First (p : ℕ → Bool) (cs rest : List ℕ) : Type 0 where
  pub c : ℕ
  pub passes : p c ≡ true
  pub is : cs ≡ c ∷ rest

stepped : (p : ℕ → Bool) (cs rest : List ℕ) → one p cs ≡ Some rest → First p cs rest
stepped p [] rest h = absurd (cc h)
stepped p (c ∷ cs) rest h = go (p c) refl h
  where
    go : (t : Bool) → p c ≡ t → cond t (Some cs) None ≡ Some rest → First p (c ∷ cs) rest
    go true e k = record { c = c; passes = e; is = let same : cs ≡ rest = cc k in ap (λ x. c ∷ x) same }
    go false e k = absurd (cc k)

past_over : (p : ℕ → Bool) (front back : List ℕ) → list_all p front ≡ true → past p (front ++ back) ≡ past p back
past_over p [] back h = refl
past_over p (c ∷ front) back h = ap (λ t. cond t (past p (front ++ back)) (c ∷ (front ++ back))) (and_first (p c) (list_all p front) h) ∙ past_over p front back (and_second (p c) (list_all p front) h)

pub past-shorter : (p : ℕ → Bool) (cs : List ℕ) → length (past p cs) ≤ length cs
past-shorter p [] = omega arith
past-shorter p (c ∷ cs) = go (p c) (past-shorter p cs)
  where
    go : (b : Bool) → length (past p cs) ≤ length cs → length (cond b (past p cs) (c ∷ cs)) ≤ length (c ∷ cs)
    go true h = omega (arith, h)
    go false h = omega arith

-- a front that passes, and the rest
pub record Fronted (p : ℕ → Bool) (cs rest : List ℕ) : Type 0 where
  pub front : List ℕ
  pub passes : list_all p front ≡ true
  pub is : cs ≡ front ++ rest

pasted : (p : ℕ → Bool) (cs : List ℕ) → Fronted p cs (past p cs)
pasted p [] = record { front = []; passes = refl; is = refl }
pasted p (c ∷ cs) = go (p c) refl (pasted p cs)
  where
    go : (t : Bool) → p c ≡ t → Fronted p cs (past p cs) → Fronted p (c ∷ cs) (cond t (past p cs) (c ∷ cs))
    go true e f = record { front = c ∷ f.front; passes = and_from (p c) (list_all p f.front) e f.passes; is = ap (λ x. c ∷ x) f.is }
    go false e f = record { front = []; passes = refl; is = refl }

-- ---- words

word_reaches : (f r : List ℕ) → is_word f ≡ true → AtMost (word (f ++ r)) (length r)
word_reaches [] r h = absurd (cc h)
word_reaches (c ∷ cs) r h =
    subst (λ o. AtMost (option_map (past continues_word) o) (length r)) (sym (step begins_word c (cs ++ r) (and_first (begins_word c) (list_all continues_word cs) h)))
    (omega (arith, ap length (past_over continues_word cs r (and_second (begins_word c) (list_all continues_word cs) h)), past-shorter continues_word r))

-- a token of the kind stands before the rest
pub record Found (k : TokenKind) (cs rest : List ℕ) : Type 0 where
  pub front : List ℕ
  pub token : IsToken k front
  pub is : cs ≡ front ++ rest

mapped : (o : Option (List ℕ)) (f : List ℕ → List ℕ) (rest : List ℕ) → option_map f o ≡ Some rest → (x : List ℕ) × (o ≡ Some x) × (rest ≡ f x)
mapped None f rest h = absurd (cc h)
mapped (Some x) f rest h = (x, refl, let e : rest ≡ f x = cc h in e)

word_found : (cs rest : List ℕ) → word cs ≡ Some rest → Found kind.Word cs rest
word_found cs rest h =
    let m = mapped (one begins_word cs) (past continues_word) rest h in
    let first = stepped begins_word cs m.0 m.1 in
    let more = pasted continues_word m.0 in
    record {
      front = first.c ∷ more.front;
      token = and_from (begins_word first.c) (list_all continues_word more.front) first.passes more.passes;
      is = first.is ∙ ap (λ x. first.c ∷ x) more.is ∙ ap (λ x. first.c ∷ (more.front ++ x)) (sym m.2);
    }

-- ---- numbers

most-shorter : (n : ℕ) (cs : List ℕ) → length (past_most n cs) ≤ length cs
most-shorter zero cs = omega arith
most-shorter (suc n) [] = omega arith
most-shorter (suc n) (c ∷ cs) = go (is_digit c) (most-shorter n cs)
  where
    go : (t : Bool) → length (past_most n cs) ≤ length cs → length (cond t (past_most n cs) (c ∷ cs)) ≤ length (c ∷ cs)
    go true h = omega (arith, h)
    go false h = omega arith

most_over : (n : ℕ) (ds r : List ℕ) → list_all is_digit ds ≡ true → length ds ≤ n → length (past_most n (ds ++ r)) ≤ length r
most_over n [] r h l = most-shorter n r
most_over zero (d ∷ ds) r h l = absurd (omega (arith, l))
most_over (suc n) (d ∷ ds) r h l =
    subst (λ t. length (cond t (past_most n (ds ++ r)) (d ∷ (ds ++ r))) ≤ length r) (sym (and_first (is_digit d) (list_all is_digit ds) h))
    (most_over n ds r (and_second (is_digit d) (list_all is_digit ds) h) (omega (arith, l)))

pub record Digits (n : ℕ) (cs rest : List ℕ) : Type 0 where
  pub front : List ℕ
  pub digits : list_all is_digit front ≡ true
  pub few : length front ≤ n
  pub is : cs ≡ front ++ rest

mosted : (n : ℕ) (cs : List ℕ) → Digits n cs (past_most n cs)
mosted zero cs = record { front = []; digits = refl; few = omega arith; is = refl }
mosted (suc n) [] = record { front = []; digits = refl; few = omega arith; is = refl }
mosted (suc n) (c ∷ cs) = go (is_digit c) refl (mosted n cs)
  where
    go : (t : Bool) → is_digit c ≡ t → Digits n cs (past_most n cs) → Digits (suc n) (c ∷ cs) (cond t (past_most n cs) (c ∷ cs))
    go true e f = record { front = c ∷ f.front; digits = and_from (is_digit c) (list_all is_digit f.front) e f.digits; few = omega (arith, f.few); is = ap (λ x. c ∷ x) f.is }
    go false e f = record { front = []; digits = refl; few = omega arith; is = refl }

fraction-shorter : (cs : List ℕ) (o : Option (List ℕ)) → ((x : List ℕ) → o ≡ Some x → length x ≤ length cs) → length (fraction cs o) ≤ length cs
fraction-shorter cs None h = omega arith
fraction-shorter cs (Some x) h = omega (arith, most-shorter 3 x, h x refl)

thened : (o : Option (List ℕ)) (f : List ℕ → Option (List ℕ)) (y : List ℕ) → (o >>= f) ≡ Some y → (x : List ℕ) × (o ≡ Some x) × (f x ≡ Some y)
thened None f y h = absurd (cc h)
thened (Some x) f y h = (x, refl, h)

point-shorter : (cs x : List ℕ) → point cs ≡ Some x → length x ≤ length cs
point-shorter cs x h =
    let t = thened (one (λ c. c == 46) cs) digit x h in
    let a = stepped (λ c. c == 46) cs t.0 t.1 in
    let b = stepped is_digit t.0 x t.2 in
    omega (arith, ap length a.is, ap length b.is)

whole-shorter : (cs : List ℕ) → length (whole cs) ≤ length cs
whole-shorter cs = fraction-shorter cs (point cs) (point-shorter cs)

number_is : (c : ℕ) (cs : List ℕ) → is_digit c ≡ true → number (c ∷ cs) ≡ Some (whole (past is_digit cs))
number_is c cs h = ap (option_map (λ after. whole (past is_digit after))) (step is_digit c cs h)

whole_reaches : (f r : List ℕ) → AreDigits f → AtMost (number (f ++ r)) (length r)
whole_reaches [] r h = absurd (omega (arith, h.1))
whole_reaches (c ∷ cs) r h =
    subst (λ o. AtMost o (length r)) (sym (number_is c (cs ++ r) (and_first (is_digit c) (list_all is_digit cs) h.0)))
    (omega (arith, whole-shorter (past is_digit (cs ++ r)), ap length (past_over is_digit cs r (and_second (is_digit c) (list_all is_digit cs) h.0)), past-shorter is_digit r))

point_is : (d : ℕ) (cs : List ℕ) → is_digit d ≡ true → point (46 ∷ d ∷ cs) ≡ Some cs
point_is d cs h = step is_digit d cs h

part_reaches : (part r : List ℕ) → AreDigits part → length part ≤ 4 → length (whole (46 ∷ (part ++ r))) ≤ length r
part_reaches [] r h l = absurd (omega (arith, h.1))
part_reaches (d ∷ ds) r h l =
    subst (λ o. length (fraction (46 ∷ d ∷ (ds ++ r)) o) ≤ length r) (sym (point_is d (ds ++ r) (and_first (is_digit d) (list_all is_digit ds) h.0)))
    (most_over 3 ds r (and_second (is_digit d) (list_all is_digit ds) h.0) (omega (arith, l)))

both_reach : (front part r : List ℕ) → AreDigits front → AreDigits part → length part ≤ 4 → AtMost (number (front ++ 46 ∷ (part ++ r))) (length r)
both_reach [] part r h k l = absurd (omega (arith, h.1))
both_reach (c ∷ cs) part r h k l =
    subst (λ o. AtMost o (length r)) (sym (number_is c (cs ++ 46 ∷ (part ++ r)) (and_first (is_digit c) (list_all is_digit cs) h.0)))
    (subst (λ x. length (whole x) ≤ length r) (sym (past_over is_digit cs (46 ∷ (part ++ r)) (and_second (is_digit c) (list_all is_digit cs) h.0))) (part_reaches part r k l))

number_reaches : (f r : List ℕ) → IsNumber f → AtMost (number (f ++ r)) (length r)
number_reaches f r (inl h) = whole_reaches f r h
number_reaches f r (inr h) =
    subst (λ x. AtMost (number x) (length r)) (sym (ap (λ x. x ++ r) h.5 ∙ append_assoc h.0 (46 ∷ h.1) r)) (both_reach h.0 h.1 r h.2 h.3 h.4)

fraction_found : (c : ℕ) (w x : List ℕ) (o : Option (List ℕ)) → list_all is_digit (c ∷ w) ≡ true → point x ≡ o → Found kind.Number (c ∷ (w ++ x)) (fraction x o)
fraction_found c w x None h e = record { front = c ∷ w; token = inl (h, omega arith); is = refl }
fraction_found c w x (Some y) h e =
    let t = thened (one (λ c. c == 46) x) digit y e in
    let a = stepped (λ c. c == 46) x t.0 t.1 in
    let b = stepped is_digit t.0 y t.2 in
    let m = mosted 3 y in
    let dot : a.c ≡ 46 = (let p = a.passes in grind (arith, p)) in
    let is : x ≡ (46 ∷ (b.c ∷ m.front)) ++ past_most 3 y = a.is ∙ ap (λ n. n ∷ t.0) dot ∙ ap (λ xs. 46 ∷ xs) (b.is ∙ ap (λ xs. b.c ∷ xs) m.is) in
    record {
      front = (c ∷ w) ++ 46 ∷ (b.c ∷ m.front);
      token = inr (c ∷ w, b.c ∷ m.front, (h, omega arith), (and_from (is_digit b.c) (list_all is_digit m.front) b.passes m.digits, omega arith), omega (arith, m.few), refl);
      is = ap (λ xs. (c ∷ w) ++ xs) is ∙ sym (append_assoc (c ∷ w) (46 ∷ (b.c ∷ m.front)) (past_most 3 y));
    }

number_found : (cs rest : List ℕ) → number cs ≡ Some rest → Found kind.Number cs rest
number_found cs rest h =
    let m = mapped (digit cs) (λ after. whole (past is_digit after)) rest h in
    let first = stepped is_digit cs m.0 m.1 in
    let more = pasted is_digit m.0 in
    let f = fraction_found first.c more.front (past is_digit m.0) (point (past is_digit m.0)) (and_from (is_digit first.c) (list_all is_digit more.front) first.passes more.passes) refl in
    record { front = f.front; token = f.token; is = first.is ∙ ap (λ x. first.c ∷ x) more.is ∙ f.is ∙ ap (λ x. f.front ++ x) (sym m.2) }

-- ---- dates

then : (o : Option (List ℕ)) (f : List ℕ → Option (List ℕ)) (x y : List ℕ) → o ≡ Some x → f x ≡ Some y → (o >>= f) ≡ Some y
then o f x y p q = ap (λ o. o >>= f) p ∙ q

pub date_is : (cs : List ℕ) (p : DateParts cs) (r : List ℕ) → date (cs ++ r) ≡ Some r
date_is cs p r =
    let all = p.digits in
    let d1 = step is_digit p.a (p.b ∷ p.c ∷ p.d ∷ 45 ∷ p.f ∷ p.g ∷ 45 ∷ p.i ∷ p.j ∷ r) (and_first (is_digit p.a) (list_all is_digit (p.b ∷ p.c ∷ p.d ∷ p.f ∷ p.g ∷ p.i ∷ p.j ∷ [])) all) in
    let a1 = and_second (is_digit p.a) (list_all is_digit (p.b ∷ p.c ∷ p.d ∷ p.f ∷ p.g ∷ p.i ∷ p.j ∷ [])) all in
    let d2 = step is_digit p.b (p.c ∷ p.d ∷ 45 ∷ p.f ∷ p.g ∷ 45 ∷ p.i ∷ p.j ∷ r) (and_first (is_digit p.b) (list_all is_digit (p.c ∷ p.d ∷ p.f ∷ p.g ∷ p.i ∷ p.j ∷ [])) a1) in
    let a2 = and_second (is_digit p.b) (list_all is_digit (p.c ∷ p.d ∷ p.f ∷ p.g ∷ p.i ∷ p.j ∷ [])) a1 in
    let d3 = step is_digit p.c (p.d ∷ 45 ∷ p.f ∷ p.g ∷ 45 ∷ p.i ∷ p.j ∷ r) (and_first (is_digit p.c) (list_all is_digit (p.d ∷ p.f ∷ p.g ∷ p.i ∷ p.j ∷ [])) a2) in
    let a3 = and_second (is_digit p.c) (list_all is_digit (p.d ∷ p.f ∷ p.g ∷ p.i ∷ p.j ∷ [])) a2 in
    let d4 = step is_digit p.d (45 ∷ p.f ∷ p.g ∷ 45 ∷ p.i ∷ p.j ∷ r) (and_first (is_digit p.d) (list_all is_digit (p.f ∷ p.g ∷ p.i ∷ p.j ∷ [])) a3) in
    let a4 = and_second (is_digit p.d) (list_all is_digit (p.f ∷ p.g ∷ p.i ∷ p.j ∷ [])) a3 in
    let d5 = step is_digit p.f (p.g ∷ 45 ∷ p.i ∷ p.j ∷ r) (and_first (is_digit p.f) (list_all is_digit (p.g ∷ p.i ∷ p.j ∷ [])) a4) in
    let a5 = and_second (is_digit p.f) (list_all is_digit (p.g ∷ p.i ∷ p.j ∷ [])) a4 in
    let d6 = step is_digit p.g (45 ∷ p.i ∷ p.j ∷ r) (and_first (is_digit p.g) (list_all is_digit (p.i ∷ p.j ∷ [])) a5) in
    let a6 = and_second (is_digit p.g) (list_all is_digit (p.i ∷ p.j ∷ [])) a5 in
    let d7 = step is_digit p.i (p.j ∷ r) (and_first (is_digit p.i) (list_all is_digit (p.j ∷ [])) a6) in
    let a7 = and_second (is_digit p.i) (list_all is_digit (p.j ∷ [])) a6 in
    let d8 = step is_digit p.j r (and_first (is_digit p.j) true a7) in
    let year = then (digit (p.a ∷ p.b ∷ p.c ∷ p.d ∷ 45 ∷ p.f ∷ p.g ∷ 45 ∷ p.i ∷ p.j ∷ r) >>= digit >>= digit) digit (p.d ∷ 45 ∷ p.f ∷ p.g ∷ 45 ∷ p.i ∷ p.j ∷ r) (45 ∷ p.f ∷ p.g ∷ 45 ∷ p.i ∷ p.j ∷ r)
    (then (digit (p.a ∷ p.b ∷ p.c ∷ p.d ∷ 45 ∷ p.f ∷ p.g ∷ 45 ∷ p.i ∷ p.j ∷ r) >>= digit) digit (p.c ∷ p.d ∷ 45 ∷ p.f ∷ p.g ∷ 45 ∷ p.i ∷ p.j ∷ r) (p.d ∷ 45 ∷ p.f ∷ p.g ∷ 45 ∷ p.i ∷ p.j ∷ r)
    (then (digit (p.a ∷ p.b ∷ p.c ∷ p.d ∷ 45 ∷ p.f ∷ p.g ∷ 45 ∷ p.i ∷ p.j ∷ r)) digit (p.b ∷ p.c ∷ p.d ∷ 45 ∷ p.f ∷ p.g ∷ 45 ∷ p.i ∷ p.j ∷ r) (p.c ∷ p.d ∷ 45 ∷ p.f ∷ p.g ∷ 45 ∷ p.i ∷ p.j ∷ r) d1 d2) d3) d4 in
    ap (λ x. date (x ++ r)) p.is
    ∙ ap (λ o. o >>= hyphen >>= digit >>= digit >>= hyphen >>= digit >>= digit) year
    ∙ ap (λ o. o >>= digit >>= hyphen >>= digit >>= digit) d5
    ∙ ap (λ o. o >>= hyphen >>= digit >>= digit) d6
    ∙ ap (λ o. o >>= digit) d7
    ∙ d8

-- a character that passes, and those before it
abbrev After : (ℕ → Bool) → (List ℕ → List ℕ) → List ℕ → List ℕ → Type 0
After p f cs rest = (c : ℕ) × (p c ≡ true) × (cs ≡ f (c ∷ rest))

date_found : (cs rest : List ℕ) → date cs ≡ Some rest → Found kind.Date cs rest
date_found cs rest h =
    let t1 = thened (digit cs >>= digit >>= digit >>= digit >>= hyphen >>= digit >>= digit >>= hyphen >>= digit) digit rest h in
    let t2 = thened (digit cs >>= digit >>= digit >>= digit >>= hyphen >>= digit >>= digit >>= hyphen) digit t1.0 t1.1 in
    let t3 = thened (digit cs >>= digit >>= digit >>= digit >>= hyphen >>= digit >>= digit) hyphen t2.0 t2.1 in
    let t4 = thened (digit cs >>= digit >>= digit >>= digit >>= hyphen >>= digit) digit t3.0 t3.1 in
    let t5 = thened (digit cs >>= digit >>= digit >>= digit >>= hyphen) digit t4.0 t4.1 in
    let t6 = thened (digit cs >>= digit >>= digit >>= digit) hyphen t5.0 t5.1 in
    let t7 = thened (digit cs >>= digit >>= digit) digit t6.0 t6.1 in
    let t8 = thened (digit cs >>= digit) digit t7.0 t7.1 in
    let t9 = thened (digit cs) digit t8.0 t8.1 in
    let a = stepped is_digit cs t9.0 t9.1 in
    let b = stepped is_digit t9.0 t8.0 t9.2 in
    let c = stepped is_digit t8.0 t7.0 t8.2 in
    let d = stepped is_digit t7.0 t6.0 t7.2 in
    let e = stepped (λ c. c == 45) t6.0 t5.0 t6.2 in
    let f = stepped is_digit t5.0 t4.0 t5.2 in
    let g = stepped is_digit t4.0 t3.0 t4.2 in
    let k = stepped (λ c. c == 45) t3.0 t2.0 t3.2 in
    let i = stepped is_digit t2.0 t1.0 t2.2 in
    let j = stepped is_digit t1.0 rest t1.2 in
    let digits : list_all is_digit (a.c ∷ b.c ∷ c.c ∷ d.c ∷ f.c ∷ g.c ∷ i.c ∷ j.c ∷ []) ≡ true =
    and_from (is_digit a.c) (list_all is_digit (b.c ∷ c.c ∷ d.c ∷ f.c ∷ g.c ∷ i.c ∷ j.c ∷ [])) a.passes
    (and_from (is_digit b.c) (list_all is_digit (c.c ∷ d.c ∷ f.c ∷ g.c ∷ i.c ∷ j.c ∷ [])) b.passes
    (and_from (is_digit c.c) (list_all is_digit (d.c ∷ f.c ∷ g.c ∷ i.c ∷ j.c ∷ [])) c.passes
    (and_from (is_digit d.c) (list_all is_digit (f.c ∷ g.c ∷ i.c ∷ j.c ∷ [])) d.passes
    (and_from (is_digit f.c) (list_all is_digit (g.c ∷ i.c ∷ j.c ∷ [])) f.passes
    (and_from (is_digit g.c) (list_all is_digit (i.c ∷ j.c ∷ [])) g.passes
    (and_from (is_digit i.c) (list_all is_digit (j.c ∷ [])) i.passes (and_from (is_digit j.c) true j.passes refl))))))) in
    record {
      front = a.c ∷ b.c ∷ c.c ∷ d.c ∷ e.c ∷ f.c ∷ g.c ∷ k.c ∷ i.c ∷ j.c ∷ [];
      token = and_from (list_all is_digit (a.c ∷ b.c ∷ c.c ∷ d.c ∷ f.c ∷ g.c ∷ i.c ∷ j.c ∷ []) && (e.c == 45)) (k.c == 45)
          (and_from (list_all is_digit (a.c ∷ b.c ∷ c.c ∷ d.c ∷ f.c ∷ g.c ∷ i.c ∷ j.c ∷ [])) (e.c == 45) digits e.passes) k.passes;
      is = a.is ∙ ap (λ x. a.c ∷ x) (b.is ∙ ap (λ x. b.c ∷ x) (c.is ∙ ap (λ x. c.c ∷ x) (d.is ∙ ap (λ x. d.c ∷ x) (e.is ∙ ap (λ x. e.c ∷ x) (f.is ∙ ap (λ x. f.c ∷ x) (g.is ∙ ap (λ x. g.c ∷ x) (k.is ∙ ap (λ x. k.c ∷ x) (i.is ∙ ap (λ x. i.c ∷ x) j.is))))))));
    }

date_reaches : (f r : List ℕ) → is_date f ≡ true → AtMost (date (f ++ r)) (length r)
date_reaches f r h = subst (λ o. AtMost o (length r)) (sym (date_is f (date_parts f h) r)) (let n : length r ≤ length r = omega arith in n)

pub date_then : (cs : List ℕ) (p : DateParts cs) (r : List ℕ) → number (cs ++ r) ≡ Some (45 ∷ p.f ∷ p.g ∷ 45 ∷ p.i ∷ p.j ∷ r)
date_then cs p r =
    let a1 = and_second (is_digit p.a) (list_all is_digit (p.b ∷ p.c ∷ p.d ∷ p.f ∷ p.g ∷ p.i ∷ p.j ∷ [])) p.digits in
    let a2 = and_second (is_digit p.b) (list_all is_digit (p.c ∷ p.d ∷ p.f ∷ p.g ∷ p.i ∷ p.j ∷ [])) a1 in
    let a3 = and_second (is_digit p.c) (list_all is_digit (p.d ∷ p.f ∷ p.g ∷ p.i ∷ p.j ∷ [])) a2 in
    let three : list_all is_digit (p.b ∷ p.c ∷ p.d ∷ []) ≡ true =
    and_from (is_digit p.b) (list_all is_digit (p.c ∷ p.d ∷ [])) (and_first (is_digit p.b) (list_all is_digit (p.c ∷ p.d ∷ p.f ∷ p.g ∷ p.i ∷ p.j ∷ [])) a1)
    (and_from (is_digit p.c) (list_all is_digit (p.d ∷ [])) (and_first (is_digit p.c) (list_all is_digit (p.d ∷ p.f ∷ p.g ∷ p.i ∷ p.j ∷ [])) a2)
    (and_from (is_digit p.d) true (and_first (is_digit p.d) (list_all is_digit (p.f ∷ p.g ∷ p.i ∷ p.j ∷ [])) a3) refl)) in
    ap (λ x. number (x ++ r)) p.is
    ∙ number_is p.a (p.b ∷ p.c ∷ p.d ∷ 45 ∷ p.f ∷ p.g ∷ 45 ∷ p.i ∷ p.j ∷ r) (and_first (is_digit p.a) (list_all is_digit (p.b ∷ p.c ∷ p.d ∷ p.f ∷ p.g ∷ p.i ∷ p.j ∷ [])) p.digits)
    ∙ ap (λ x. Some (whole x)) (past_over is_digit (p.b ∷ p.c ∷ p.d ∷ []) (45 ∷ p.f ∷ p.g ∷ 45 ∷ p.i ∷ p.j ∷ r) three)

-- a number is never longer than the date that begins alike
pub date_number : (cs a b : List ℕ) → date cs ≡ Some a → number cs ≡ Some b → length a ≤ length b
date_number cs a b h k =
    let f = date_found cs a h in
    let p = date_parts f.front f.token in
    let e : Some b ≡ Some (45 ∷ p.f ∷ p.g ∷ 45 ∷ p.i ∷ p.j ∷ a) = sym k ∙ ap number f.is ∙ date_then f.front p a in
    let same : b ≡ 45 ∷ p.f ∷ p.g ∷ 45 ∷ p.i ∷ p.j ∷ a = cc e in
    omega (arith, ap length same)

-- ---- texts

-- where there is one, it is no longer
abbrev Shorter : Option (List ℕ) → ℕ → Type 0
Shorter None n = Unit {0}
Shorter (Some cs) n = length cs ≤ n

Shorter-weaker : (o : Option (List ℕ)) (m n : ℕ) → m ≤ n → Shorter o m → Shorter o n
Shorter-weaker None m n l h = tt
Shorter-weaker (Some x) m n l h = omega (arith, l, h)

or_shorter : (o : Option (List ℕ)) (x : List ℕ) (n : ℕ) → Shorter o n → length x ≤ n → Shorter (option_or o (Some x)) n
or_shorter None x n h l = l
or_shorter (Some y) x n h l = h

inside-shorter : (t : Bool) (cs : List ℕ) → Shorter (inside t cs) (length cs)
inside-shorter true [] = omega arith
inside-shorter false [] = tt
inside-shorter true (c ∷ cs) = go (c == 34) (inside-shorter false cs)
  where
    go : (b : Bool) → Shorter (inside false cs) (length cs) → Shorter (cond b (option_or (inside false cs) (Some (c ∷ cs))) (Some (c ∷ cs))) (length (c ∷ cs))
    go true h = or_shorter (inside false cs) (c ∷ cs) (length (c ∷ cs)) (Shorter-weaker (inside false cs) (length cs) (length (c ∷ cs)) (omega arith) h) (omega arith)
    go false h = omega arith
inside-shorter false (c ∷ cs) = go (c == 34) (is_control c) (inside-shorter true cs) (inside-shorter false cs)
  where
    go : (b d : Bool) → Shorter (inside true cs) (length cs) → Shorter (inside false cs) (length cs) → Shorter (cond b (inside true cs) (cond d None (inside false cs))) (length (c ∷ cs))
    go true d h k = Shorter-weaker (inside true cs) (length cs) (length (c ∷ cs)) (omega arith) h
    go false true h k = tt
    go false false h k = Shorter-weaker (inside false cs) (length cs) (length (c ∷ cs)) (omega arith) k

or_most : (o : Option (List ℕ)) (x : List ℕ) (n : ℕ) → Shorter o n → length x ≤ n → AtMost (option_or o (Some x)) n
or_most None x n h l = l
or_most (Some y) x n h l = h

-- after a quote a text may end
may_end : (r : List ℕ) → AtMost (inside true r) (length r)
may_end [] = omega arith
may_end (c ∷ cs) = go (c == 34)
  where
    go : (b : Bool) → AtMost (cond b (option_or (inside false cs) (Some (c ∷ cs))) (Some (c ∷ cs))) (length (c ∷ cs))
    go true = or_most (inside false cs) (c ∷ cs) (length (c ∷ cs)) (Shorter-weaker (inside false cs) (length cs) (length (c ∷ cs)) (omega arith) (inside-shorter false cs)) (omega arith)
    go false = omega arith

or_first : (o p : Option (List ℕ)) (n : ℕ) → AtMost o n → AtMost (option_or o p) n
or_first None p n h = absurd h
or_first (Some x) p n h = h

inside_reaches : (cs r : List ℕ) → list_any is_control cs ≡ false → AtMost (inside false (doubled cs ++ 34 ∷ r)) (length r)
inside_reaches [] r h = may_end r
inside_reaches (c ∷ cs) r h = go (c == 34) refl (inside_reaches cs r (neither_second (is_control c) (list_any is_control cs) h))
  where
    go : (b : Bool) → (c == 34) ≡ b → AtMost (inside false (doubled cs ++ 34 ∷ r)) (length r) → AtMost (inside false (cond b (34 ∷ 34 ∷ doubled cs) (c ∷ doubled cs) ++ 34 ∷ r)) (length r)
    go true e k = or_first (inside false (doubled cs ++ 34 ∷ r)) (Some (34 ∷ (doubled cs ++ 34 ∷ r))) (length r) k
    go false e k =
        subst (λ b. AtMost (cond b (inside true (doubled cs ++ 34 ∷ r)) (cond (is_control c) None (inside false (doubled cs ++ 34 ∷ r)))) (length r)) (sym e)
        (subst (λ b. AtMost (cond b None (inside false (doubled cs ++ 34 ∷ r))) (length r)) (sym (neither_first (is_control c) (list_any is_control cs) h)) k)

quoted-append : (cs r : List ℕ) → quoted cs ++ r ≡ 34 ∷ (doubled cs ++ 34 ∷ r)
quoted-append cs r = ap (λ x. 34 ∷ x) (append_assoc (doubled cs) (34 ∷ []) r)

-- no text reaches further than the one that is scanned
pub text_reaches : (f r : List ℕ) → IsText f → AtMost (text (f ++ r)) (length r)
text_reaches f r h = subst (λ x. AtMost (text x) (length r)) (sym (ap (λ x. x ++ r) h.2 ∙ quoted-append h.0 r)) (inside_reaches h.0 r h.1)

-- what was read inside a text
pub record Inner (cs rest : List ℕ) : Type 0 where
  pub inner : List ℕ
  pub clean : list_any is_control inner ≡ false
  pub is : cs ≡ doubled inner ++ 34 ∷ rest

inner_quote : (cs rest : List ℕ) → Inner cs rest → Inner (34 ∷ 34 ∷ cs) rest
inner_quote cs rest i = record { inner = 34 ∷ i.inner; clean = i.clean; is = ap (λ x. 34 ∷ 34 ∷ x) i.is }

inner_more : (c : ℕ) (cs rest : List ℕ) → (c == 34) ≡ false → is_control c ≡ false → Inner cs rest → Inner (c ∷ cs) rest
inner_more c cs rest q d i = record {
  inner = c ∷ i.inner;
  clean = ap (λ t. t || list_any is_control i.inner) d ∙ i.clean;
  is = ap (λ x. c ∷ x) i.is ∙ ap (λ t. cond t (34 ∷ 34 ∷ doubled i.inner) (c ∷ doubled i.inner) ++ 34 ∷ rest) (sym q);
}

inner_end : (rest : List ℕ) → Inner (34 ∷ rest) rest
inner_end rest = record { inner = []; clean = refl; is = refl }

abbrev Reads : Bool → List ℕ → List ℕ → Type 0
Reads true cs rest = inside true cs ≡ Some rest → Inner (34 ∷ cs) rest
Reads false cs rest = inside false cs ≡ Some rest → Inner cs rest

or_cases : (o : Option (List ℕ)) (x rest : List ℕ) → option_or o (Some x) ≡ Some rest → (o ≡ Some rest) ⊎ (x ≡ rest)
or_cases None x rest h = inr (let e : x ≡ rest = cc h in e)
or_cases (Some y) x rest h = inl h

inside_found : (t : Bool) (cs rest : List ℕ) → Reads t cs rest
inside_found true [] rest = λ h. subst (λ x. Inner (34 ∷ []) x) (let e : [] ≡ rest = cc h in e) (inner_end [])
inside_found false [] rest = λ h. absurd (cc h)
inside_found true (c ∷ cs) rest = λ h. go (c == 34) refl (inside_found false cs rest) h
  where
    go : (b : Bool) → (c == 34) ≡ b → Reads false cs rest → cond b (option_or (inside false cs) (Some (c ∷ cs))) (Some (c ∷ cs)) ≡ Some rest → Inner (34 ∷ c ∷ cs) rest
    go true e r h = elim (or_cases (inside false cs) (c ∷ cs) rest h) [ inl more ↦ subst (λ x. Inner (34 ∷ x ∷ cs) rest) (sym (quote_is c e)) (inner_quote cs rest (r more)) | inr end ↦ subst (λ x. Inner (34 ∷ c ∷ cs) x) end (inner_end (c ∷ cs)) ]
    go false e r h = subst (λ x. Inner (34 ∷ c ∷ cs) x) (let f : c ∷ cs ≡ rest = cc h in f) (inner_end (c ∷ cs))
inside_found false (c ∷ cs) rest = λ h. go (c == 34) (is_control c) refl refl (inside_found true cs rest) (inside_found false cs rest) h
  where
    go : (b d : Bool) → (c == 34) ≡ b → is_control c ≡ d → Reads true cs rest → Reads false cs rest → cond b (inside true cs) (cond d None (inside false cs)) ≡ Some rest → Inner (c ∷ cs) rest
    go true d e f r s h = subst (λ x. Inner (x ∷ cs) rest) (sym (quote_is c e)) (r h)
    go false true e f r s h = absurd (cc h)
    go false false e f r s h = inner_more c cs rest e f (s h)

-- what is scanned is a text
pub text_found : (cs rest : List ℕ) → text cs ≡ Some rest → Found kind.Text cs rest
text_found cs rest h =
    let t = thened (one (λ c. c == 34) cs) (inside false) rest h in
    let a = stepped (λ c. c == 34) cs t.0 t.1 in
    let i = inside_found false t.0 rest t.2 in
    record {
      front = quoted i.inner;
      token = (i.inner, i.clean, refl);
      is = a.is ∙ ap (λ x. x ∷ t.0) (quote_is a.c a.passes) ∙ ap (λ x. 34 ∷ x) i.is ∙ sym (quoted-append i.inner rest);
    }

-- ---- symbols

abbrev equal_or_greater : ℕ → Bool
equal_or_greater d = (d == 61) || (d == 62)

second-shorter : (p : ℕ → Bool) (cs : List ℕ) → length (second p cs) ≤ length cs
second-shorter p [] = omega arith
second-shorter p (c ∷ cs) = go (p c)
  where
    go : (t : Bool) → length (cond t cs (c ∷ cs)) ≤ length (c ∷ cs)
    go true = omega arith
    go false = omega arith

one_symbol : (s l g : Bool) (x y z : List ℕ) (n : ℕ) → (s || l || g) ≡ true → length x ≤ n → length y ≤ n → length z ≤ n → AtMost (cond s (Some x) (cond l (Some y) (cond g (Some z) None))) n
one_symbol true l g x y z n h a b c = a
one_symbol false true g x y z n h a b c = b
one_symbol false false true x y z n h a b c = c
one_symbol false false false x y z n h a b c = absurd (cc h)

second_over : (p : ℕ → Bool) (d : ℕ) (r : List ℕ) → p d ≡ true → length (second p (d ∷ r)) ≤ length r
second_over p d r h = subst (λ t. length (cond t r (d ∷ r)) ≤ length r) (sym h) (omega arith)

two_symbol : (c d : ℕ) (r : List ℕ) (t : Bool) → (c == 60) ≡ t → ((t && ((d == 61) || (d == 62))) || ((c == 62) && (d == 61))) ≡ true → AtMost (symbol (c ∷ d ∷ r)) (length r)
two_symbol c d r true e k = subst (λ x. AtMost (symbol (x ∷ d ∷ r)) (length r)) (let f : 60 ≡ c = grind (arith, e) in f) (second_over (λ d. (d == 61) || (d == 62)) d r (only ((d == 61) || (d == 62)) ((c == 62) && (d == 61)) c e k))
  where
    only : (a b : Bool) (c : ℕ) → (c == 60) ≡ true → (a || ((c == 62) && (d == 61))) ≡ true → a ≡ true
    only true b c e k = refl
    only false b c e k = absurd (cc (sym (and_first (c == 62) (d == 61) k) ∙ (let n : (c == 62) ≡ false = grind (arith, e) in n)))
two_symbol c d r false e k =
    subst (λ x. AtMost (symbol (x ∷ d ∷ r)) (length r)) (let g = and_first (c == 62) (d == 61) k in let f : 62 ≡ c = grind (arith, g) in f)
    (second_over (λ d. (d == 61) || (d == 61)) d r (ap (λ t. t || (d == 61)) (and_second (c == 62) (d == 61) k)))

symbol_reaches : (f r : List ℕ) → is_symbol f ≡ true → AtMost (symbol (f ++ r)) (length r)
symbol_reaches [] r h = absurd (cc h)
symbol_reaches (c ∷ []) r h = one_symbol (is_single c) (c == 60) (c == 62) r (second (λ d. (d == 61) || (d == 62)) r) (second (λ d. (d == 61) || (d == 61)) r) (length r) h (omega arith) (second-shorter (λ d. (d == 61) || (d == 62)) r) (second-shorter (λ d. (d == 61) || (d == 61)) r)
symbol_reaches (c ∷ d ∷ []) r h = two_symbol c d r (c == 60) refl h
symbol_reaches (c ∷ d ∷ e ∷ f) r h = absurd (cc h)

-- one or two characters, before the rest
second_found : (p : ℕ → Bool) (c : ℕ) (cs rest : List ℕ) → rest ≡ second p cs → is_symbol (c ∷ []) ≡ true → ((d : ℕ) → p d ≡ true → is_symbol (c ∷ d ∷ []) ≡ true) → Found kind.Symbol (c ∷ cs) rest
second_found p c [] rest e h k = record { front = c ∷ []; token = h; is = ap (λ x. c ∷ x) (sym e) }
second_found p c (d ∷ cs) rest e h k = go (p d) refl e
  where
    go : (t : Bool) → p d ≡ t → rest ≡ cond t cs (d ∷ cs) → Found kind.Symbol (c ∷ d ∷ cs) rest
    go true f g = record { front = c ∷ d ∷ []; token = k d f; is = ap (λ x. c ∷ d ∷ x) (sym g) }
    go false f g = record { front = c ∷ []; token = h; is = ap (λ x. c ∷ x) (sym g) }

less_found : (d : ℕ) → ((d == 61) || (d == 62)) ≡ true → is_symbol (60 ∷ d ∷ []) ≡ true
less_found d h = ap (λ t. t || false) h ∙ refl

more_found : (d : ℕ) → ((d == 61) || (d == 61)) ≡ true → is_symbol (62 ∷ d ∷ []) ≡ true
more_found d h = go (d == 61) h
  where
    go : (t : Bool) → (t || t) ≡ true → t ≡ true
    go true h = refl
    go false h = h

symbol_at : (c : ℕ) (cs rest : List ℕ) (s l g : Bool) → is_single c ≡ s → (c == 60) ≡ l → (c == 62) ≡ g
    → cond s (Some cs) (cond l (Some (second (λ d. (d == 61) || (d == 62)) cs)) (cond g (Some (second (λ d. (d == 61) || (d == 61)) cs)) None)) ≡ Some rest → Found kind.Symbol (c ∷ cs) rest
symbol_at c cs rest true l g a b d h = record { front = c ∷ []; token = ap (λ t. t || (c == 60) || (c == 62)) a; is = ap (λ x. c ∷ x) (let e : cs ≡ rest = cc h in e) }
symbol_at c cs rest false true g a b d h =
    subst (λ x. Found kind.Symbol (x ∷ cs) rest) (let f : 60 ≡ c = grind (arith, b) in f) (second_found (λ d. (d == 61) || (d == 62)) 60 cs rest (let e : rest ≡ second (λ d. (d == 61) || (d == 62)) cs = cc h in e) refl less_found)
symbol_at c cs rest false false true a b d h =
    subst (λ x. Found kind.Symbol (x ∷ cs) rest) (let f : 62 ≡ c = grind (arith, d) in f) (second_found (λ d. (d == 61) || (d == 61)) 62 cs rest (let e : rest ≡ second (λ d. (d == 61) || (d == 61)) cs = cc h in e) refl more_found)
symbol_at c cs rest false false false a b d h = absurd (cc h)

symbol_found : (cs rest : List ℕ) → symbol cs ≡ Some rest → Found kind.Symbol cs rest
symbol_found [] rest h = absurd (cc h)
symbol_found (c ∷ cs) rest h = symbol_at c cs rest (is_single c) (c == 60) (c == 62) refl refl refl h

-- ---- all kinds

abbrev pub scan : TokenKind → List ℕ → Option (List ℕ)
scan kind.Word cs = word cs
scan kind.Number cs = number cs
scan kind.Date cs = date cs
scan kind.Text cs = text cs
scan kind.Symbol cs = symbol cs

pub found : (k : TokenKind) (cs rest : List ℕ) → scan k cs ≡ Some rest → Found k cs rest
found kind.Word cs rest h = word_found cs rest h
found kind.Number cs rest h = number_found cs rest h
found kind.Date cs rest h = date_found cs rest h
found kind.Text cs rest h = text_found cs rest h
found kind.Symbol cs rest h = symbol_found cs rest h

pub reaches : (k : TokenKind) (f r : List ℕ) → IsToken k f → AtMost (scan k (f ++ r)) (length r)
reaches kind.Word f r h = word_reaches f r h
reaches kind.Number f r h = number_reaches f r h
reaches kind.Date f r h = date_reaches f r h
reaches kind.Text f r h = text_reaches f r h
reaches kind.Symbol f r h = symbol_reaches f r h
