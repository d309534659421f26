-- Quotes written twice.
use Rattle.std.proofs.Common.{◌≡◌, ◌≢◌, ◌<◌, ℕ, suc, List, [], ◌∷◌, ◌++◌, length, get_or, Bool, true, false, cond, refl, sym, ap, ◌∙◌, arith, append_assoc, append-nil, length-append, take}
use Rattle.std.proofs.Math.Seq.{take-append_seam}
use Rattle.std.specs.Prelude.{◌||◌, ◌==◌}
use Rattle.std.specs.List.{list_any}
use Rattle.std.specs.Str.{chars, IsUtf8}
use lib.Utf8.{encode, encodes}
use Rattle.std.proofs.lemmas.Str.{encodes-chars, encodes-append, inside_one}
use Rattle.opa_io.proofs.Characters.{quote_is}
use Rattle.opa_io.proofs.Bools.{neither_first, neither_second}
use Rattle.opa_words.specs.Kinds.{doubled, IsText}
use Rattle.opa_words.specs.Quotes.{HasNoQuote, SplitsAtQuote, IsQuoted, QuotedTellsApart}

pub not_quote : (b : ℕ) → b ≢ 34 → (b == 34) ≡ false
not_quote b h = grind (arith, h)

pub no_quote : (bs : List ℕ) → ((i : ℕ) → i < length bs → get_or bs i 0 ≢ 34) → HasNoQuote bs
no_quote [] h = refl
no_quote (b ∷ bs) h = ap (λ t. t || list_any (λ x. x == 34) bs) (not_quote b (h 0 (omega arith))) ∙ no_quote bs (λ i l. h (suc i) (omega (arith, l)))

pub doubled-append : (bs cs : List ℕ) → doubled (bs ++ cs) ≡ doubled bs ++ doubled cs
doubled-append [] cs = refl
doubled-append (b ∷ bs) cs = go (b == 34) (doubled-append bs cs)
  where
    go : (t : Bool) → doubled (bs ++ cs) ≡ doubled bs ++ doubled cs → cond t (34 ∷ 34 ∷ doubled (bs ++ cs)) (b ∷ doubled (bs ++ cs)) ≡ cond t (34 ∷ 34 ∷ doubled bs) (b ∷ doubled bs) ++ doubled cs
    go true h = ap (λ x. 34 ∷ 34 ∷ x) h
    go false h = ap (λ x. b ∷ x) h

pub doubled_plain : (bs : List ℕ) → HasNoQuote bs → doubled bs ≡ bs
doubled_plain [] h = refl
doubled_plain (b ∷ bs) h =
    ap (λ t. cond t (34 ∷ 34 ∷ doubled bs) (b ∷ doubled bs)) (neither_first (b == 34) (list_any (λ x. x == 34) bs) h) ∙ ap (λ x. b ∷ x) (doubled_plain bs (neither_second (b == 34) (list_any (λ x. x == 34) bs) h))

doubled_split : (bs front later : List ℕ) → SplitsAtQuote bs front later → doubled bs ≡ front ++ 34 ∷ 34 ∷ doubled later
doubled_split bs front later h = ap doubled h.0 ∙ doubled-append front (34 ∷ later) ∙ ap (λ x. x ++ 34 ∷ 34 ∷ doubled later) (doubled_plain front h.1)

-- ---- writing

pub quote_goes : (out rest front later all mid out2 : List ℕ) → out ++ (doubled rest ++ 34 ∷ []) ≡ all → SplitsAtQuote rest front later → mid ≡ out ++ front → out2 ≡ mid ++ 34 ∷ 34 ∷ [] → out2 ++ (doubled later ++ 34 ∷ []) ≡ all
quote_goes out rest front later all mid out2 h s m n =
    ap (λ x. x ++ (doubled later ++ 34 ∷ [])) (n ∙ ap (λ x. x ++ 34 ∷ 34 ∷ []) m)
    ∙ append_assoc (out ++ front) (34 ∷ 34 ∷ []) (doubled later ++ 34 ∷ [])
    ∙ append_assoc out front (34 ∷ 34 ∷ (doubled later ++ 34 ∷ []))
    ∙ ap (λ x. out ++ x) (sym (append_assoc front (34 ∷ 34 ∷ doubled later) (34 ∷ [])) ∙ ap (λ x. x ++ 34 ∷ []) (sym (doubled_split rest front later s)))
    ∙ h

pub quote_ends : (out rest all mid out2 : List ℕ) → out ++ (doubled rest ++ 34 ∷ []) ≡ all → HasNoQuote rest → mid ≡ out ++ rest → out2 ≡ mid ++ 34 ∷ [] → out2 ≡ all
quote_ends out rest all mid out2 h s m n = n ∙ ap (λ x. x ++ 34 ∷ []) m ∙ append_assoc out rest (34 ∷ []) ∙ ap (λ x. out ++ (x ++ 34 ∷ [])) (sym (doubled_plain rest s)) ∙ h

-- ---- reading

pub read_ends : (out rest all out2 : List ℕ) → doubled out ++ rest ≡ all → HasNoQuote rest → out2 ≡ out ++ rest → doubled out2 ≡ all
read_ends out rest all out2 h s n = ap doubled n ∙ doubled-append out rest ∙ ap (λ x. doubled out ++ x) (doubled_plain rest s) ∙ h

-- ---- a Text token's bytes

pub encode_plain : (c : ℕ) → (c == 34) ≡ false → HasNoQuote (encode c)
encode_plain c h = no_quote (encode c) (λ i l e. let k : c ≡ get_or (encode c) i 0 = inside_one c [] (encode c) i (sym (append-nil (encode c))) l (omega (arith, e)) in
    let same : c ≡ 34 = k ∙ e in let q : (c == 34) ≡ true = grind (arith, same) in let x : true ≡ false = sym q ∙ h in absurd (cc x))

pub encodes_doubled : (cs : List ℕ) → encodes (doubled cs) ≡ doubled (encodes cs)
unfolding encode
encodes_doubled [] = refl
encodes_doubled (c ∷ cs) = go (c == 34) refl (encodes_doubled cs)
  where
    go : (t : Bool) → (c == 34) ≡ t → encodes (doubled cs) ≡ doubled (encodes cs) → encodes (cond t (34 ∷ 34 ∷ doubled cs) (c ∷ doubled cs)) ≡ doubled (encode c ++ encodes cs)
    go true e h = ap (λ x. 34 ∷ 34 ∷ x) h ∙ ap (λ x. doubled (encode x ++ encodes cs)) (sym (quote_is c e))
    go false e h = ap (λ x. encode c ++ x) h ∙ ap (λ x. x ++ doubled (encodes cs)) (sym (doubled_plain (encode c) (encode_plain c e))) ∙ sym (doubled-append (encode c) (encodes cs))

-- a Text token is a text between quotes in bytes too
pub text_is : (bs : List ℕ) → IsUtf8 bs → IsText (chars bs) → IsQuoted bs
unfolding encode
text_is bs u t =
    (encodes t.0, sym (encodes-chars bs u) ∙ ap encodes t.2 ∙ ap (λ x. 34 ∷ x) (encodes-append (doubled t.0) (34 ∷ []) ∙ ap (λ x. x ++ 34 ∷ []) (encodes_doubled t.0)))

same_last : (xs ys : List ℕ) → xs ++ 34 ∷ [] ≡ ys ++ 34 ∷ [] → xs ≡ ys
same_last xs ys e =
    let wide : length xs ≡ length ys = omega (arith, ap length e, length-append xs (34 ∷ []), length-append ys (34 ∷ [])) in
    sym (take-append_seam xs (34 ∷ [])) ∙ ap (take (length xs)) e ∙ ap (λ n. take n (ys ++ 34 ∷ [])) wide ∙ take-append_seam ys (34 ∷ [])

pub quoted_tells_apart : QuotedTellsApart
quoted_tells_apart bs cs e = undo bs cs (same_last (doubled bs) (doubled cs) (let f : doubled bs ++ 34 ∷ [] ≡ doubled cs ++ 34 ∷ [] = cc e in f))
  where
    first : (b c : ℕ) (x y : List ℕ) (p q : Bool) → (b == 34) ≡ p → (c == 34) ≡ q → cond p (34 ∷ 34 ∷ x) (b ∷ x) ≡ cond q (34 ∷ 34 ∷ y) (c ∷ y) → (b ≡ c) × (x ≡ y)
    first b c x y true true hp hq k = (quote_is b hp ∙ sym (quote_is c hq), let f : x ≡ y = cc k in f)
    first b c x y true false hp hq k = absurd (let f : 34 ≡ c = cc k in let q : (c == 34) ≡ true = grind (arith, f) in let z : true ≡ false = sym q ∙ hq in cc z)
    first b c x y false true hp hq k = absurd (let f : b ≡ 34 = cc k in let q : (b == 34) ≡ true = grind (arith, f) in let z : true ≡ false = sym q ∙ hp in cc z)
    first b c x y false false hp hq k = (let f : b ≡ c = cc k in f, let f : x ≡ y = cc k in f)

    none : (c : ℕ) (y : List ℕ) (q : Bool) → [] ≡ cond q (34 ∷ 34 ∷ y) (c ∷ y) → ⊥
    none c y true k = absurd (cc k)
    none c y false k = absurd (cc k)

    undo : (bs cs : List ℕ) → doubled bs ≡ doubled cs → bs ≡ cs
    undo [] [] k = refl
    undo [] (c ∷ cs) k = absurd (none c (doubled cs) (c == 34) k)
    undo (b ∷ bs) [] k = absurd (none b (doubled bs) (b == 34) (sym k))
    undo (b ∷ bs) (c ∷ cs) k = let h = first b c (doubled bs) (doubled cs) (b == 34) (c == 34) refl refl k in ap (λ x. x ∷ bs) h.0 ∙ ap (λ x. c ∷ x) (undo bs cs h.1)
