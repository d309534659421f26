-- Lists of tokens that are taken apart.
use Rattle.std.proofs.Common.{◌≡◌, ◌≤◌, ◌-◌, ℕ, List, [], ◌∷◌, ◌++◌, length, map, false, refl, sym, ap, ◌∙◌, arith}
use Rattle.std.proofs.lemmas.List.{length-map, length-append}
use Rattle.std.proofs.lemmas.List.Elements.{All-take, All-drop}
use Rattle.opa_words.specs.declared.kinds.Token.{Token}
use Rattle.opa_words.specs.Reserved.{joined, phrase_text}
use Rattle.opa_words.specs.Places.{token_text}
use Rattle.opa_words.specs.Pieces.{Piece, pieces, piece, is_nothing, phrase_of}

pub pieces_parts : (bytes : List ℕ) (front back : List Token) → pieces bytes (front ++ back) ≡ pieces bytes front ++ pieces bytes back
pieces_parts bytes [] back = refl
pieces_parts bytes (t ∷ front) back = ap (λ ps. piece bytes t ∷ ps) (pieces_parts bytes front back)

pub seen_parts : (bytes : List ℕ) (all front back : List Token) → all ≡ front ++ back → pieces bytes all ≡ pieces bytes front ++ pieces bytes back
seen_parts bytes all front back e = ap (pieces bytes) e ∙ pieces_parts bytes front back

pub seen_length : (bytes : List ℕ) (ts : List Token) → length (pieces bytes ts) ≡ length ts
seen_length bytes ts = length-map ts (piece bytes)

texts_seen : (bytes : List ℕ) (ts : List Token) → map (λ (p : Piece). p.text) (pieces bytes ts) ≡ map (token_text bytes) ts
texts_seen bytes [] = refl
texts_seen bytes (t ∷ ts) = ap (λ xs. token_text bytes t ∷ xs) (texts_seen bytes ts)

-- what `using` can name
pub phrase_seen : (bytes : List ℕ) (ts : List Token) → phrase_text bytes ts ≡ phrase_of (pieces bytes ts)
phrase_seen bytes ts = ap joined (sym (texts_seen bytes ts))

-- ---- equal lists, cut at the same place

pub same_cut : {A : Type 0} (xs ys cs ds : List A) → length xs ≡ length ys → xs ++ cs ≡ ys ++ ds → (xs ≡ ys) × (cs ≡ ds)
same_cut [] [] cs ds n e = (refl, e)
same_cut [] (y ∷ ys) cs ds n e = absurd (omega (arith, n))
same_cut (x ∷ xs) [] cs ds n e = absurd (omega (arith, n))
same_cut {A} (x ∷ xs) (y ∷ ys) cs ds n e =
    let h : x ≡ y = cc e in
    let t : xs ++ cs ≡ ys ++ ds = cc e in
    let r = same_cut xs ys cs ds (omega (arith, n)) t in
    (ap (λ (z : A). z ∷ xs) h ∙ ap (λ zs. y ∷ zs) r.0, r.1)

pub same_ends : {A : Type 0} (xs ys cs ds : List A) → length cs ≡ length ds → xs ++ cs ≡ ys ++ ds → (xs ≡ ys) × (cs ≡ ds)
same_ends xs ys cs ds n e = same_cut xs ys cs ds (omega (arith, n, length-append xs cs, length-append ys ds, ap length e)) e

pub something : (ps : List Piece) → is_nothing ps ≡ false → ps ≡ [] → ⊥
something [] h e = absurd (cc h)
something (p ∷ ps) h e = absurd (cc e)

pub is_something : (p : Piece) (ps qs : List Piece) → ps ≡ p ∷ qs → is_nothing ps ≡ false
is_something p ps qs e = ap is_nothing e

pub ruleset split_laws = (seen_parts, seen_length, All-take, All-drop)

-- nothing is left behind the last two tokens
pub last_left : (bytes : List ℕ) (ts : List Token) (front back rest left : List Piece) (p q : Piece)
    → 2 ≤ length ts → pieces bytes ts ≡ front ++ back → length front ≡ length ts - 2 → back ≡ p ∷ rest → rest ≡ q ∷ left → length left ≡ 0
last_left bytes ts front back rest left p q n e s f g =
    omega (arith, n, s, seen_length bytes ts, ap length e, length-append front back, ap length f, ap length g)
