-- Tokens spell at most one point.
use Rattle.std.proofs.Common.{◌≡◌, ◌≤◌, ◌-◌, ℕ, List, [], ◌∷◌, ◌++◌, length, true, false, refl, sym, ap, subst, ◌∙◌, arith, append_assoc, append-nil, length-append, inl, inr, true≢false}
use Rattle.std.specs.Prelude.{◌⊎◌, Option, Some, None, MatchOption, codes}
use Rattle.opa_words.specs.declared.kinds.TokenKind.{TokenKind}
use Rattle.opa_words.specs.declared.kinds.TokenKind.TheVariants as kind
use Rattle.opa_words.specs.Kinds.{quoted}
use Rattle.opa_words.specs.Reserved.{is_word_kind, is_phrase_kind}
use Rattle.opa_words.proofs.QuoteLaws.{quoted_tells_apart}
use Rattle.opa_words.proofs.PieceLists.{same_ends}
use Rattle.opa_words.specs.Pieces.{Piece, word, text, date, phrase_of}
use Rattle.opa_text.specs.declared.pointed.Point.{Point}
use Rattle.opa_text.specs.Readers.{is_word}
use Rattle.opa_text.specs.Pointed.{is_run, are_words, name_part, SpellsPoint, SpellsDated, EndsWith, IsPlain, IsNamed}
use Rattle.std.proofs.lemmas.Slice.Eq.{bytes_eq-Decides}
use Rattle.std.proofs.lemmas.Bool.{and_parts}
use Rattle.opa_io.proofs.Characters.{own_bytes}

-- ---- what points are made of

are_words_last : (ps : List Piece) (p : Piece) → are_words (ps ++ p ∷ []) ≡ true → is_phrase_kind p.kind ≡ true
are_words_last [] p h = (and_parts (is_phrase_kind p.kind) true h).0
are_words_last (q ∷ ps) p h = are_words_last ps p (and_parts (is_phrase_kind q.kind) (are_words (ps ++ p ∷ [])) h).1

pub word_is_phrase : (k : TokenKind) → is_word_kind k ≡ true → is_phrase_kind k ≡ true
word_is_phrase kind.Word h = refl
word_is_phrase kind.Number h = refl
word_is_phrase kind.Date h = absurd (cc h)
word_is_phrase kind.Text h = absurd (cc h)
word_is_phrase kind.Symbol h = absurd (cc h)

run_last : (ps : List Piece) (p : Piece) → is_run (ps ++ p ∷ []) ≡ true → is_phrase_kind p.kind ≡ true
run_last [] p h = word_is_phrase p.kind (and_parts (is_word_kind p.kind) true h).0
run_last (q ∷ ps) p h = are_words_last ps p (and_parts (is_word_kind q.kind) (are_words (ps ++ p ∷ [])) h).1

-- a run ends with no text
pub run_ends : (ws front : List Piece) (q : Piece) (t : List ℕ) → is_run ws ≡ true → ws ≡ front ++ q ∷ text t ∷ [] → ⊥
run_ends ws front q t h e =
    let f : ws ≡ (front ++ q ∷ []) ++ text t ∷ [] = e ∙ sym (append_assoc front (q ∷ []) (text t ∷ [])) in
    true≢false (sym (run_last (front ++ q ∷ []) (text t) (subst (λ xs. is_run xs ≡ true) f h)))

same_two : (xs ys : List Piece) (a b c d : Piece) → xs ++ a ∷ b ∷ [] ≡ ys ++ c ∷ d ∷ [] → (xs ≡ ys) × (b ≡ d)
same_two xs ys a b c d e =
    let r = same_ends xs ys (a ∷ b ∷ []) (c ∷ d ∷ []) refl e in
    let s : b ≡ d = cc r.1 in (r.0, s)

same_text : (n t : List ℕ) → text n ≡ text t → n ≡ t
same_text n t e = quoted_tells_apart n t (ap (λ (p : Piece). p.text) e)

abbrev point_of : List ℕ → Option (List ℕ) → Point
point_of phrase name = record { phrase = phrase; name = name }

same_point : (p q : Point) → p.phrase ≡ q.phrase → p.name ≡ q.name → p ≡ q
same_point p q e f = ap (λ x. point_of x p.name) e ∙ ap (λ x. point_of q.phrase x) f

-- tokens spell at most one point
pub one_point : (p q : Point) (ps : List Piece) → SpellsPoint p ps → SpellsPoint q ps → p ≡ q
one_point p q ps h k = go p.name q.name refl refl
  where
    go : (n m : Option (List ℕ)) → p.name ≡ n → q.name ≡ m → p ≡ q
    go None None e f =
        let a : ps ≡ h.0 = h.3 ∙ ap (λ x. h.0 ++ name_part x) e ∙ append-nil h.0 in
        let b : ps ≡ k.0 = k.3 ∙ ap (λ x. k.0 ++ name_part x) f ∙ append-nil k.0 in
        same_point p q (h.2 ∙ ap phrase_of (sym a ∙ b) ∙ sym k.2) (e ∙ sym f)
    go None (Some m) e f =
        let a : ps ≡ h.0 = h.3 ∙ ap (λ x. h.0 ++ name_part x) e ∙ append-nil h.0 in
        absurd (run_ends h.0 k.0 (word (codes "of")) m h.1 (sym a ∙ k.3 ∙ ap (λ x. k.0 ++ name_part x) f))
    go (Some n) None e f =
        let b : ps ≡ k.0 = k.3 ∙ ap (λ x. k.0 ++ name_part x) f ∙ append-nil k.0 in
        absurd (run_ends k.0 h.0 (word (codes "of")) n k.1 (sym b ∙ h.3 ∙ ap (λ x. h.0 ++ name_part x) e))
    go (Some n) (Some m) e f =
        let r = same_two h.0 k.0 (word (codes "of")) (text n) (word (codes "of")) (text m) (sym (ap (λ x. h.0 ++ name_part x) e) ∙ sym h.3 ∙ k.3 ∙ ap (λ x. k.0 ++ name_part x) f) in
        same_point p q (h.2 ∙ ap phrase_of r.0 ∙ sym k.2) (e ∙ ap (λ x. Some x) (same_text n m r.1) ∙ sym f)

-- and with a date
pub one_dated : (p q : Point) (s t : List ℕ) (ps : List Piece) → SpellsDated p s ps → SpellsDated q t ps → (p ≡ q) × (s ≡ t)
one_dated p q s t ps h k =
    let r = same_two h.0 k.0 (word (codes "at")) (date s) (word (codes "at")) (date t) (sym h.2 ∙ k.2) in
    (one_point p q k.0 (subst (SpellsPoint p) r.0 h.1) k.1, ap (λ (x : Piece). x.text) r.1)

-- ---- what is found

-- a point without a name
pub plain_is : (p : Point) (ps : List Piece) → IsPlain p ps → SpellsPoint p ps
plain_is p ps h = (ps, h.0, h.1, sym (ap (λ x. ps ++ name_part x) h.2 ∙ append-nil ps))

pub no_plain : (ps : List Piece) → ((front : List Piece) (t : List ℕ) → EndsWith (codes "of") kind.Text t front ps → ⊥) → is_run ps ≡ false → (p : Point) → SpellsPoint p ps → ⊥
no_plain ps n r p h = go p.name refl
  where
    go : (x : Option (List ℕ)) → p.name ≡ x → ⊥
    go None e = true≢false (sym h.1 ∙ ap is_run (sym (h.3 ∙ ap (λ y. h.0 ++ name_part y) e ∙ append-nil h.0)) ∙ r)
    go (Some t) e = n h.0 (quoted t) (h.3 ∙ ap (λ y. h.0 ++ name_part y) e)

-- a point with a name
pub named_is : (p : Point) (t : List ℕ) (front ps : List Piece) → EndsWith (codes "of") kind.Text t front ps → IsNamed p t front → SpellsPoint p ps
named_is p t front ps e h =
    let n = h.2 in
    (front, h.0, h.1, e ∙ sym (ap (λ x. front ++ name_part x) n.1 ∙ ap (λ x. front ++ word (codes "of") ∷ piece_of x ∷ []) n.2))
  where
    piece_of : List ℕ → Piece
    piece_of x = record { kind = kind.Text; text = x }

pub no_named : (t : List ℕ) (front ps : List Piece) → EndsWith (codes "of") kind.Text t front ps → is_run front ≡ false → (p : Point) → SpellsPoint p ps → ⊥
no_named t front ps e r p h = go p.name refl
  where
    last : Piece
    last = record { kind = kind.Text; text = t }

    go : (x : Option (List ℕ)) → p.name ≡ x → ⊥
    go None f =
        let a : h.0 ≡ front ++ word (codes "of") ∷ last ∷ [] = sym (h.3 ∙ ap (λ y. h.0 ++ name_part y) f ∙ append-nil h.0) ∙ e in
        run_ends_at h.0 a h.1
      where
        run_ends_at : (ws : List Piece) → ws ≡ front ++ word (codes "of") ∷ last ∷ [] → is_run ws ≡ true → ⊥
        run_ends_at ws a b =
            let g : ws ≡ (front ++ word (codes "of") ∷ []) ++ last ∷ [] = a ∙ sym (append_assoc front (word (codes "of") ∷ []) (last ∷ [])) in
            true≢false (sym (run_last (front ++ word (codes "of") ∷ []) last (subst (λ xs. is_run xs ≡ true) g b)))
    go (Some n) f =
        let s = same_two h.0 front (word (codes "of")) (text n) (word (codes "of")) last (sym (h.3 ∙ ap (λ y. h.0 ++ name_part y) f) ∙ e) in
        true≢false (sym h.1 ∙ ap is_run s.0 ∙ r)

-- with a name
pub named_or : (r : Option Point) (t : List ℕ) (front ps : List Piece) → EndsWith (codes "of") kind.Text t front ps
    → MatchOption r (is_run front ≡ false) (λ p. IsNamed p t front) → MatchOption r ((p : Point) → SpellsPoint p ps → ⊥) (λ p. SpellsPoint p ps)
named_or None t front ps e h = no_named t front ps e h
named_or (Some p) t front ps e h = named_is p t front ps e h

-- ---- the last two tokens

abbrev made : TokenKind → List ℕ → Piece
made k t = record { kind = k; text = t }

this_word : (w : List ℕ) (k : TokenKind) (t : List ℕ) → is_word w k t ≡ true → made k t ≡ word w
this_word w kind.Word t h = ap (made kind.Word) ((bytes_eq-Decides t w).0 h)
this_word w kind.Number t h = absurd (cc h)
this_word w kind.Date t h = absurd (cc h)
this_word w kind.Text t h = absurd (cc h)
this_word w kind.Symbol t h = absurd (cc h)

own_word : (w : List ℕ) → is_word w kind.Word w ≡ true
own_word w = own_bytes w

nothing : (ps : List Piece) → length ps ≡ 0 → ps ≡ []
nothing [] n = refl
nothing (p ∷ ps) n = absurd (omega (arith, n))

-- nothing is left behind the last two tokens
pub two_left : (ps front back rest left : List Piece) (p q : Piece) → 2 ≤ length ps → ps ≡ front ++ back → length front ≡ length ps - 2 → back ≡ p ∷ rest → rest ≡ q ∷ left → length left ≡ 0
two_left ps front back rest left p q n e s f g = omega (arith, n, s, ap length e, length-append front back, ap length f, ap length g)

-- where a word and a last token stand behind the front
pub ends_here : (w t u : List ℕ) (k l : TokenKind) (front back ps rest left : List Piece)
    → ps ≡ front ++ back → back ≡ record { kind = k; text = t } ∷ rest → rest ≡ record { kind = l; text = u } ∷ left → length left ≡ 0 → is_word w k t ≡ true → EndsWith w l u front ps
ends_here w t u k l front back ps rest left e f g n h =
    e ∙ ap (λ x. front ++ x) (f ∙ ap (λ x. x ∷ rest) (this_word w k t h) ∙ ap (λ x. word w ∷ x) (g ∙ ap (λ x. record { kind = l; text = u } ∷ x) (nothing left n)))

pub ends_not : (w t u : List ℕ) (k l : TokenKind) (front back ps rest left : List Piece)
    → ps ≡ front ++ back → back ≡ record { kind = k; text = t } ∷ rest → rest ≡ record { kind = l; text = u } ∷ left → length left ≡ 0 → is_word w k t ≡ false
    → (other : List Piece) (m : TokenKind) (v : List ℕ) → EndsWith w m v other ps → ⊥
ends_not w t u k l front back ps rest left e f g n h other m v x =
    let parts : ps ≡ front ++ made k t ∷ made l u ∷ [] = e ∙ ap (λ y. front ++ y) (f ∙ ap (λ y. made k t ∷ y) (g ∙ ap (λ y. made l u ∷ y) (nothing left n))) in
    let r = same_ends front other (made k t ∷ made l u ∷ []) (word w ∷ made m v ∷ []) refl (sym parts ∙ x) in
    let s : made k t ≡ word w = cc r.1 in
    true≢false (sym (own_word w) ∙ ap (λ (p : Piece). is_word w p.kind p.text) (sym s) ∙ h)

-- a last token of another kind
pub ends_otherwise : (w u : List ℕ) (l k : TokenKind) (front ps : List Piece) → EndsWith w l u front ps → (l ≡ k → ⊥) → (other : List Piece) (v : List ℕ) → EndsWith w k v other ps → ⊥
ends_otherwise w u l k front ps e n other v h =
    let r = same_two front other (word w) (made l u) (word w) (made k v) (sym e ∙ h) in
    n (ap (λ (p : Piece). p.kind) r.1)

-- what stands before `at` and a date is the point
pub dated_front : (p : Point) (s t : List ℕ) (front ps : List Piece) → EndsWith (codes "at") kind.Date t front ps → SpellsDated p s ps → SpellsPoint p front
dated_front p s t front ps e h =
    let r = same_two h.0 front (word (codes "at")) (date s) (word (codes "at")) (made kind.Date t) (sym h.2 ∙ e) in
    subst (SpellsPoint p) r.0 h.1

-- ---- kinds

pub no_text : (k : TokenKind) → k ≡ kind.Word ⊎ (k ≡ kind.Number ⊎ (k ≡ kind.Date ⊎ k ≡ kind.Symbol)) → k ≡ kind.Text → ⊥
no_text k (inl e) f = absurd (let g : kind.Word ≡ kind.Text = sym e ∙ f in cc g)
no_text k (inr (inl e)) f = absurd (let g : kind.Number ≡ kind.Text = sym e ∙ f in cc g)
no_text k (inr (inr (inl e))) f = absurd (let g : kind.Date ≡ kind.Text = sym e ∙ f in cc g)
no_text k (inr (inr (inr e))) f = absurd (let g : kind.Symbol ≡ kind.Text = sym e ∙ f in cc g)

pub no_date : (k : TokenKind) → k ≡ kind.Word ⊎ (k ≡ kind.Number ⊎ (k ≡ kind.Text ⊎ k ≡ kind.Symbol)) → k ≡ kind.Date → ⊥
no_date k (inl e) f = absurd (let g : kind.Word ≡ kind.Date = sym e ∙ f in cc g)
no_date k (inr (inl e)) f = absurd (let g : kind.Number ≡ kind.Date = sym e ∙ f in cc g)
no_date k (inr (inr (inl e))) f = absurd (let g : kind.Text ≡ kind.Date = sym e ∙ f in cc g)
no_date k (inr (inr (inr e))) f = absurd (let g : kind.Symbol ≡ kind.Date = sym e ∙ f in cc g)
