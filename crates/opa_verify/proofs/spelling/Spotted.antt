-- Points, cut at their first quote.
use Rattle.std.proofs.Common.{◌≡◌, ℕ, ◌+◌, length, List, [], ◌∷◌, ◌++◌, take, true, false, ◌||◌, ◌==◌, refl, sym, ap, subst, ◌∙◌, arith, append_assoc, append-nil, length-append}
use Rattle.std.specs.Prelude.{Option, Some, None, codes}
use Rattle.std.specs.List.{list_any}
use Rattle.std.specs.Str.{IsUtf8}
use Rattle.std.proofs.lemmas.Bool.{or_parts, or_from, eq-eqb}
use Rattle.std.proofs.lemmas.Str.{IsUtf8-append}
use Rattle.opa_words.specs.Kinds.{quoted}
use Rattle.opa_words.specs.Quotes.{HasNoQuote, BeginsWithQuote}
use Rattle.opa_words.proofs.Ascii.{ascii_utf8}
use Rattle.opa_words.proofs.LawsHold.{quoted_is_token_holds}
use Rattle.opa_text.specs.Laws.{CanBeQuoted}
use Rattle.opa_verify.specs.Spelling.Cuts.{IsQuotedFrom}
use Rattle.opa_verify.specs.Spelling.Printed.{spot_text, name_part}
use Rattle.opa_verify.specs.Spelling.Spelling.{is_plain, CanBePhrase, IsName, MayBeName, IsSpot}
use Rattle.opa_verify.specs.declared.spelling.printed.Spot.{Spot}
use Rattle.opa_verify.proofs.spelling.Calming.{plain_no_quote}
use Rattle.opa_verify.proofs.spelling.Cutting.{same_head, same_parts, taken}

-- ---- the loop

-- what was passed has no quote
pub record Unquoted (text front rest : List ℕ) (count : ℕ) : Type 0 where
  pub parts : text ≡ front ++ rest
  pub many : length front ≡ count
  pub none : HasNoQuote front

pub unquoted_none : (text : List ℕ) → Unquoted text [] text 0
unquoted_none text = record { parts = refl; many = refl; none = refl }

none_more : (front : List ℕ) (b : ℕ) → HasNoQuote front → (b == 34) ≡ false → HasNoQuote (front ++ b ∷ [])
none_more [] b h e = ap (λ t. t || false) e
none_more (c ∷ front) b h e =
    let both = or_parts (c == 34) (list_any (λ x. x == 34) front) h in
    or_from (c == 34) (list_any (λ x. x == 34) (front ++ b ∷ [])) both.0 (none_more front b both.1 e)

pub unquoted_more : (text front rest later : List ℕ) (count b : ℕ) → Unquoted text front rest count → rest ≡ b ∷ later → (b == 34) ≡ false → Unquoted text (front ++ b ∷ []) later (count + 1)
unquoted_more text front rest later count b u r n = record {
  parts = u.parts ∙ ap (λ x. front ++ x) r ∙ sym (append_assoc front (b ∷ []) later);
  many = length-append front (b ∷ []) ∙ ap (λ n. n + 1) u.many;
  none = none_more front b u.none n;
}

pub quote_here : (text front rest later first last : List ℕ) (count b : ℕ) → Unquoted text front rest count → rest ≡ b ∷ later → b ≡ 34 → first ≡ take count text → text ≡ first ++ last → IsQuotedFrom first last text
quote_here text front rest later first last count b u r q t e =
    let is : first ≡ front = t ∙ ap (take count) u.parts ∙ ap (λ n. take n (front ++ rest)) (sym u.many) ∙ taken front rest in
    let same : last ≡ rest = (same_parts first front last rest (ap length is) (sym e ∙ u.parts)).1 in
    (e, (subst HasNoQuote (sym is) u.none, subst BeginsWithQuote (sym (same ∙ r)) q))

pub never_quoted : (text front rest : List ℕ) (count : ℕ) → Unquoted text front rest count → rest ≡ [] → HasNoQuote text
never_quoted text front rest count u e = subst HasNoQuote (sym (u.parts ∙ ap (λ x. front ++ x) e ∙ append-nil front)) u.none

-- ---- the first quote

quote_first : (b : ℕ) (g xs ys : List ℕ) → HasNoQuote (b ∷ g) → BeginsWithQuote xs → xs ≡ b ∷ (g ++ ys) → ⊥
quote_first b g xs ys n q e =
    let is : b ≡ 34 = subst BeginsWithQuote e q in
    let f : true ≡ false = sym (eq-eqb b 34 is) ∙ (or_parts (b == 34) (list_any (λ x. x == 34) g) n).0 in cc f

pub first_quote : (f g xs ys : List ℕ) → HasNoQuote f → HasNoQuote g → BeginsWithQuote xs → BeginsWithQuote ys → f ++ xs ≡ g ++ ys → (f ≡ g) × (xs ≡ ys)
first_quote [] [] xs ys n m p q e = (refl, e)
first_quote [] (b ∷ g) xs ys n m p q e = absurd (quote_first b g xs ys m p e)
first_quote (b ∷ f) [] xs ys n m p q e = absurd (quote_first b f ys xs n q (sym e))
first_quote (b ∷ f) (c ∷ g) xs ys n m p q e =
    let h = same_head b c (f ++ xs) (g ++ ys) e in
    let r = first_quote f g xs ys (or_parts (b == 34) (list_any (λ x. x == 34) f) n).1 (or_parts (c == 34) (list_any (λ x. x == 34) g) m).1 p q h.1 in
    (ap (λ z. z ∷ f) h.0 ∙ ap (λ z. c ∷ z) r.0, r.1)

none_both : (xs ys : List ℕ) → HasNoQuote xs → HasNoQuote ys → HasNoQuote (xs ++ ys)
none_both [] ys h k = k
none_both (x ∷ xs) ys h k =
    let both = or_parts (x == 34) (list_any (λ b. b == 34) xs) h in
    or_from (x == 34) (list_any (λ b. b == 34) (xs ++ ys)) both.0 (none_both xs ys both.1 k)

pub quote_behind : (xs ys : List ℕ) → BeginsWithQuote ys → HasNoQuote (xs ++ ys) → ⊥
quote_behind [] [] q h = q
quote_behind [] (y ∷ ys) q h = let f : true ≡ false = sym (eq-eqb y 34 q) ∙ (or_parts (y == 34) (list_any (λ b. b == 34) ys) h).0 in cc f
quote_behind (x ∷ xs) ys q h = quote_behind xs ys q (or_parts (x == 34) (list_any (λ b. b == 34) (xs ++ ys)) h).1

pub of_plain : (t : List ℕ) → is_plain t ≡ true → HasNoQuote (t ++ codes " of ")
of_plain t h = none_both t (codes " of ") (plain_no_quote t h) refl

-- ---- points without a name

pub plain_spot_is : (phrase text : List ℕ) → CanBePhrase phrase → phrase ≡ text → IsSpot (record { phrase = phrase; name = None }) × (spot_text (record { phrase = phrase; name = None }) ≡ text)
plain_spot_is phrase text can e = ((can, tt), append-nil phrase ∙ e)

pub named_part : (p : Spot) (o : Option (List ℕ)) → p.name ≡ o → spot_text p ≡ p.phrase ++ name_part o
named_part p o e = ap (λ x. p.phrase ++ name_part x) e

pub no_plain_spot : (text : List ℕ) → HasNoQuote text → ((t : List ℕ) → CanBePhrase t → t ≡ text → ⊥) → (p : Spot) → IsSpot p → spot_text p ≡ text → ⊥
no_plain_spot text n none p is e = go p.name refl
  where
    go : (o : Option (List ℕ)) → p.name ≡ o → ⊥
    go None h = none p.phrase is.0 (sym (named_part p None h ∙ append-nil p.phrase) ∙ e)
    go (Some m) h =
        let f : (p.phrase ++ codes " of ") ++ quoted m ≡ text = append_assoc p.phrase (codes " of ") (quoted m) ∙ sym (named_part p (Some m) h) ∙ e in
        quote_behind (p.phrase ++ codes " of ") (quoted m) refl (subst HasNoQuote (sym f) n)

-- ---- points with a name

-- the parts of a point whose text is cut at its first quote
pub record Named (p : Spot) (front name : List ℕ) : Type 0 where
  pub own : List ℕ
  pub has : p.name ≡ Some own
  pub can : IsName own
  pub before : front ≡ p.phrase ++ codes " of "
  pub behind : quoted own ≡ name

pub spot_parts : (front name : List ℕ) → HasNoQuote front → BeginsWithQuote name → (p : Spot) → IsSpot p → spot_text p ≡ front ++ name → Named p front name
spot_parts front name n q p is e = go p.name refl
  where
    go : (o : Option (List ℕ)) → p.name ≡ o → Named p front name
    go None h =
        absurd (quote_behind front name q (subst HasNoQuote (sym (append-nil p.phrase) ∙ sym (named_part p None h) ∙ e) (plain_no_quote p.phrase is.0.plain)))
    go (Some m) h =
        let f : (p.phrase ++ codes " of ") ++ quoted m ≡ front ++ name = append_assoc p.phrase (codes " of ") (quoted m) ∙ sym (named_part p (Some m) h) ∙ e in
        let s = first_quote (p.phrase ++ codes " of ") front (quoted m) name (none_both p.phrase (codes " of ") (plain_no_quote p.phrase is.0.plain) refl) n refl q f in
        record { own = m; has = h; can = subst MayBeName h is.1; before = sym s.0; behind = s.1 }

-- no ` of ` stands before the quote
pub no_of : (front name : List ℕ) → HasNoQuote front → BeginsWithQuote name → ((t : List ℕ) → front ≡ t ++ codes " of " → ⊥) → (p : Spot) → IsSpot p → spot_text p ≡ front ++ name → ⊥
no_of front name n q none p is e = none p.phrase (spot_parts front name n q p is e).before

pub no_phrase : (front phrase name : List ℕ) → HasNoQuote front → BeginsWithQuote name → front ≡ phrase ++ codes " of " → ((t : List ℕ) → CanBePhrase t → t ≡ phrase → ⊥) → (p : Spot) → IsSpot p → spot_text p ≡ front ++ name → ⊥
no_phrase front phrase name n q f none p is e =
    let x = spot_parts front name n q p is e in
    none p.phrase is.0 (same_ends p.phrase phrase (sym x.before ∙ f))
  where
    same_ends : (xs ys : List ℕ) → xs ++ codes " of " ≡ ys ++ codes " of " → xs ≡ ys
    same_ends xs ys h =
        let wide : length xs ≡ length ys = omega (arith, ap length h, length-append xs (codes " of "), length-append ys (codes " of ")) in
        (same_parts xs ys (codes " of ") (codes " of ") wide h).0

pub no_name : (front name : List ℕ) → HasNoQuote front → BeginsWithQuote name → ((t : List ℕ) → IsName t → quoted t ≡ name → ⊥) → (p : Spot) → IsSpot p → spot_text p ≡ front ++ name → ⊥
no_name front name n q none p is e = let x = spot_parts front name n q p is e in none x.own x.can x.behind

pub named_spot_is : (front phrase name own : List ℕ) → CanBePhrase phrase → front ≡ phrase ++ codes " of " → IsName own → quoted own ≡ name
    → IsSpot (record { phrase = phrase; name = Some own }) × (spot_text (record { phrase = phrase; name = Some own }) ≡ front ++ name)
named_spot_is front phrase name own can f is e = (
  (can, is),
  ap (λ t. phrase ++ (codes " of " ++ t)) e ∙ sym (append_assoc phrase (codes " of ") name) ∙ ap (λ t. t ++ name) (sym f),
)

-- ---- names

pub quoted_utf8 : (t : List ℕ) → CanBeQuoted t → IsUtf8 (quoted t)
quoted_utf8 t h = (quoted_is_token_holds t h.utf8 h.plain).utf8

pub unread_name : (text : List ℕ) → (IsUtf8 text → ⊥) → (t : List ℕ) → IsName t → quoted t ≡ text → ⊥
unread_name text n t is e = n (subst IsUtf8 e (quoted_utf8 t is.1))

pub unquoted_name : (text : List ℕ) → ((t : List ℕ) → CanBeQuoted t → quoted t ≡ text → ⊥) → (t : List ℕ) → IsName t → quoted t ≡ text → ⊥
unquoted_name text none t is e = none t is.1 e

pub name_utf8 : (o : Option (List ℕ)) → MayBeName o → IsUtf8 (name_part o)
name_utf8 None h = ascii_utf8 [] refl
name_utf8 (Some n) h = IsUtf8-append (codes " of ") (quoted n) (ascii_utf8 (codes " of ") refl) (quoted_utf8 n h.1)
