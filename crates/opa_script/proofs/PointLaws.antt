-- At most one cut at `=`.
use Rattle.std.proofs.Common.{◌≡◌, ℕ, List, [], ◌∷◌, ◌++◌, true, false, refl, sym, ap, subst, ◌∙◌}
use Rattle.std.specs.Prelude.{Option, Some, None, codes, not, ◌&&◌}
use Rattle.std.proofs.lemmas.Bool.{and_parts}
use Rattle.opa_words.specs.declared.kinds.TokenKind.{TokenKind}
use Rattle.opa_words.specs.declared.kinds.TokenKind.TheVariants as kind
use Rattle.opa_words.specs.Reserved.{is_word_kind, is_phrase_kind}
use Rattle.opa_words.specs.Pieces.{Piece, symbol}
use Rattle.opa_text.specs.declared.pointed.Point.{Point}
use Rattle.opa_text.specs.Pointed.{is_run, are_words, name_part, SpellsPoint}
use Rattle.opa_script.specs.Shapes.{SpellsGiven, is_equals, has_no_equals}
use Rattle.opa_text.proofs.PointLaws.{one_point}

-- ---- `=`

no_equals_parts : (xs ys : List Piece) → has_no_equals (xs ++ ys) ≡ true → (has_no_equals xs ≡ true) × (has_no_equals ys ≡ true)
no_equals_parts [] ys h = (refl, h)
no_equals_parts (x ∷ xs) ys h =
    let b = and_parts (not (is_equals x.kind x.text)) (has_no_equals (xs ++ ys)) h in
    let r = no_equals_parts xs ys b.1 in
    (ap (λ c. c && has_no_equals xs) b.0 ∙ r.0, r.1)

pub no_equals_more : (xs ys : List Piece) → has_no_equals xs ≡ true → has_no_equals ys ≡ true → has_no_equals (xs ++ ys) ≡ true
no_equals_more [] ys h k = k
no_equals_more (x ∷ xs) ys h k =
    let b = and_parts (not (is_equals x.kind x.text)) (has_no_equals xs) h in
    ap (λ c. c && has_no_equals (xs ++ ys)) b.0 ∙ no_equals_more xs ys b.1 k

-- an `=` is one
not_equals : (ps : List Piece) → has_no_equals (symbol (codes "=") ∷ ps) ≡ true → ⊥
not_equals ps h = absurd (cc h)

pub no_equals_at : (front after : List Piece) → has_no_equals (front ++ symbol (codes "=") ∷ after) ≡ true → ⊥
no_equals_at front after h = not_equals after (no_equals_parts front (symbol (codes "=") ∷ after) h).1

-- the first `=` cuts in one way
pub one_cut : (xs ys cs ds : List Piece) → has_no_equals xs ≡ true → has_no_equals ys ≡ true → xs ++ symbol (codes "=") ∷ cs ≡ ys ++ symbol (codes "=") ∷ ds → (xs ≡ ys) × (cs ≡ ds)
one_cut [] [] cs ds h k e = (refl, (let t : cs ≡ ds = cc e in t))
one_cut [] (y ∷ ys) cs ds h k e =
    absurd (not_equals ys (let t : symbol (codes "=") ≡ y = cc e in subst (λ z. has_no_equals (z ∷ ys) ≡ true) (sym t) k))
one_cut (x ∷ xs) [] cs ds h k e =
    absurd (not_equals xs (let t : x ≡ symbol (codes "=") = cc e in subst (λ z. has_no_equals (z ∷ xs) ≡ true) t h))
one_cut (x ∷ xs) (y ∷ ys) cs ds h k e =
    let f : x ≡ y = cc e in
    let t : xs ++ symbol (codes "=") ∷ cs ≡ ys ++ symbol (codes "=") ∷ ds = cc e in
    let r = one_cut xs ys cs ds (and_parts (not (is_equals x.kind x.text)) (has_no_equals xs) h).1 (and_parts (not (is_equals y.kind y.text)) (has_no_equals ys) k).1 t in
    (ap (λ z. z ∷ xs) f ∙ ap (λ zs. y ∷ zs) r.0, r.1)

word_no_equals : (p : Piece) → is_phrase_kind p.kind ≡ true → not (is_equals p.kind p.text) ≡ true
word_no_equals p h = go p.kind refl
  where
    go : (k : TokenKind) → p.kind ≡ k → not (is_equals p.kind p.text) ≡ true
    go kind.Word e = ap (λ x. not (is_equals x p.text)) e
    go kind.Number e = ap (λ x. not (is_equals x p.text)) e
    go kind.Date e = ap (λ x. not (is_equals x p.text)) e
    go kind.Text e = ap (λ x. not (is_equals x p.text)) e
    go kind.Symbol e = absurd (let f : false ≡ true = sym (ap is_phrase_kind e) ∙ h in cc f)

words_no_equals : (ps : List Piece) → are_words ps ≡ true → has_no_equals ps ≡ true
words_no_equals [] h = refl
words_no_equals (p ∷ ps) h =
    let b = and_parts (is_phrase_kind p.kind) (are_words ps) h in
    ap (λ c. c && has_no_equals ps) (word_no_equals p b.0) ∙ words_no_equals ps b.1

run_no_equals : (ps : List Piece) → is_run ps ≡ true → has_no_equals ps ≡ true
run_no_equals [] h = refl
run_no_equals (p ∷ ps) h =
    let b = and_parts (is_word_kind p.kind) (are_words ps) h in
    ap (λ c. c && has_no_equals ps) (word_no_equals p (first p.kind b.0)) ∙ words_no_equals ps b.1
  where
    first : (k : TokenKind) → is_word_kind k ≡ true → is_phrase_kind k ≡ true
    first kind.Word h = refl
    first kind.Number h = refl
    first kind.Date h = absurd (cc h)
    first kind.Text h = absurd (cc h)
    first kind.Symbol h = absurd (cc h)

name_no_equals : (n : Option (List ℕ)) → has_no_equals (name_part n) ≡ true
name_no_equals None = refl
name_no_equals (Some n) = refl

pub point_no_equals : (p : Point) (ps : List Piece) → SpellsPoint p ps → has_no_equals ps ≡ true
point_no_equals p ps h = ap has_no_equals h.3 ∙ no_equals_more h.0 (name_part p.name) (run_no_equals h.0 h.1) (name_no_equals p.name)

-- tokens spell at most one point with tokens behind `=`, and with a date
pub one_given : (p q : Point) (cs ds ps : List Piece) → SpellsGiven p cs ps → SpellsGiven q ds ps → (p ≡ q) × (cs ≡ ds)
one_given p q cs ds ps h k =
    let r = one_cut h.0 k.0 cs ds (point_no_equals p h.0 h.1) (point_no_equals q k.0 k.1) (sym h.2 ∙ k.2) in
    (one_point p q k.0 (subst (SpellsPoint p) r.0 h.1) k.1, r.1)
