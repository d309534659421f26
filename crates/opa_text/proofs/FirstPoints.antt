-- The point at the front of tokens ends where its phrase, or the text behind it, ends.
use Rattle.std.proofs.Common.{◌≡◌, ◌≤◌, ◌+◌, ℕ, List, [], ◌∷◌, ◌++◌, length, Bool, true, false, cond, refl, sym, ap, subst, ◌∙◌, arith, append_assoc, append-nil, length-append}
use Rattle.std.specs.Prelude.{Option, Some, None, MatchOption, ◌&&◌}
use Rattle.std.proofs.lemmas.Bool.{and_parts}
use Rattle.opa_words.specs.declared.kinds.TokenKind.{TokenKind}
use Rattle.opa_words.specs.declared.kinds.TokenKind.TheVariants as kind
use Rattle.opa_words.specs.Reserved.{is_word_kind, is_phrase_kind}
use Rattle.opa_words.specs.Pieces.{Piece}
use Rattle.opa_words.proofs.PieceLists.{same_cut}
use Rattle.opa_text.specs.declared.pointed.Point.{Point}
use Rattle.opa_text.specs.Pointed.{is_run, are_words, name_part, SpellsPoint, SpellsFirst, EndsBefore, ends_plain, ends_phrase, with_text, point_end}
use Rattle.opa_text.proofs.PointLaws.{word_is_phrase, one_point}

few : (k : TokenKind) → with_text k ≤ 1
few kind.Word = omega arith
few kind.Number = omega arith
few kind.Date = omega arith
few kind.Text = omega arith
few kind.Symbol = omega arith

pub end_within : (ps : List Piece) → point_end ps ≤ length ps
end_within [] = omega arith
end_within (p ∷ ps) = go (is_phrase_kind p.kind) (end_within ps)
  where
    go : (b : Bool) → point_end ps ≤ length ps → cond b (point_end ps + 1) (with_text p.kind) ≤ length (p ∷ ps)
    go true h = omega (arith, h)
    go false h = omega (arith, few p.kind)

-- past Words and Numbers
words_end : (ws ps : List Piece) → are_words ws ≡ true → point_end (ws ++ ps) ≡ length ws + point_end ps
words_end [] ps h = omega arith
words_end (w ∷ ws) ps h =
    let b = and_parts (is_phrase_kind w.kind) (are_words ws) h in
    ap (λ t. cond t (point_end (ws ++ ps) + 1) (with_text w.kind)) b.0 ∙ omega (arith, words_end ws ps b.1)

run_words : (ws : List Piece) → is_run ws ≡ true → are_words ws ≡ true
run_words [] h = absurd (cc h)
run_words (w ∷ ws) h =
    let b = and_parts (is_word_kind w.kind) (are_words ws) h in
    ap (λ t. t && are_words ws) (word_is_phrase w.kind b.0) ∙ b.1

stops : (k : TokenKind) (n : ℕ) → ends_phrase k ≡ true → cond (is_phrase_kind k) (n + 1) (with_text k) ≡ 0
stops kind.Word n h = absurd (cc h)
stops kind.Number n h = absurd (cc h)
stops kind.Text n h = absurd (cc h)
stops kind.Date n h = refl
stops kind.Symbol n h = refl

plain_stops : (ps : List Piece) → ends_plain ps ≡ true → point_end ps ≡ 0
plain_stops [] h = refl
plain_stops (p ∷ ps) h = stops p.kind (point_end ps) h

stopped : (k : TokenKind) (n : ℕ) → cond (is_phrase_kind k) (n + 1) (with_text k) ≡ 0 → ends_phrase k ≡ true
stopped kind.Word n h = absurd (omega (arith, h))
stopped kind.Number n h = absurd (omega (arith, h))
stopped kind.Text n h = absurd (omega (arith, h))
stopped kind.Date n h = refl
stopped kind.Symbol n h = refl

plain_stopped : (ps : List Piece) → point_end ps ≡ 0 → ends_plain ps ≡ true
plain_stopped [] h = refl
plain_stopped (p ∷ ps) h = stopped p.kind (point_end ps) h

-- what follows the phrase
named_end : (name : Option (List ℕ)) (rest : List Piece) → EndsBefore name rest → point_end (name_part name ++ rest) ≡ length (name_part name)
named_end None rest h = plain_stops rest h
named_end (Some n) rest h = refl

front_end : (ws : List Piece) (name : Option (List ℕ)) (rest : List Piece) → is_run ws ≡ true → EndsBefore name rest → point_end ((ws ++ name_part name) ++ rest) ≡ length (ws ++ name_part name)
front_end ws name rest r h =
    ap point_end (append_assoc ws (name_part name) rest) ∙ words_end ws (name_part name ++ rest) (run_words ws r) ∙ ap (λ n. length ws + n) (named_end name rest h) ∙ sym (length-append ws (name_part name))

-- where the point at the front ends
pub first_ends : (p : Point) (ps rest : List Piece) (s : SpellsFirst p ps rest) → length s.0 ≡ point_end ps
first_ends p ps rest s =
    let h = s.1 in
    ap length h.3 ∙ sym (front_end h.0 p.name rest h.1 s.3) ∙ sym (ap point_end (s.2 ∙ ap (λ x. x ++ rest) h.3))

pub first_is : (p : Point) (ps front rest : List Piece) → SpellsPoint p front → ps ≡ front ++ rest → length front ≡ point_end ps → SpellsFirst p ps rest
first_is p ps front rest s e n = (front, s, e, ends p.name refl)
  where
    ends : (name : Option (List ℕ)) → p.name ≡ name → EndsBefore p.name rest
    ends (Some t) q = subst (λ x. EndsBefore x rest) (sym q) tt
    ends None q =
        let is : front ≡ s.0 = s.3 ∙ ap (λ x. s.0 ++ name_part x) q ∙ append-nil s.0 in
        let end : point_end ps ≡ length s.0 + point_end rest = ap point_end (e ∙ ap (λ x. x ++ rest) is) ∙ words_end s.0 rest (run_words s.0 s.1) in
        subst (λ x. EndsBefore x rest) (sym q) (plain_stopped rest (omega (arith, n, end, ap length is)))

pub first_not : (ps front rest : List Piece) → ((p : Point) → SpellsPoint p front → ⊥) → ps ≡ front ++ rest → length front ≡ point_end ps → (p : Point) (left : List Piece) → SpellsFirst p ps left → ⊥
first_not ps front rest none e n p left s =
    let r = same_cut s.0 front left rest (first_ends p ps left s ∙ sym n) (sym s.2 ∙ e) in
    none p (subst (SpellsPoint p) r.0 s.1)

-- what is told of the front is told of all
pub first_told : (o : Option Point) (ps front rest : List Piece) → ps ≡ front ++ rest → length front ≡ point_end ps → MatchOption o ((p : Point) → SpellsPoint p front → ⊥) (λ p. SpellsPoint p front)
    → MatchOption o ((p : Point) (left : List Piece) → SpellsFirst p ps left → ⊥) (λ p. SpellsFirst p ps rest)
first_told None ps front rest e n h = first_not ps front rest h e n
first_told (Some p) ps front rest e n h = first_is p ps front rest h e n

-- tokens begin with at most one point
pub one_first : (p q : Point) (ps rest left : List Piece) → SpellsFirst p ps rest → SpellsFirst q ps left → (p ≡ q) × (rest ≡ left)
one_first p q ps rest left s t =
    let r = same_cut s.0 t.0 rest left (first_ends p ps rest s ∙ sym (first_ends q ps left t)) (sym s.2 ∙ t.2) in
    (one_point p q t.0 (subst (SpellsPoint p) r.0 s.1) t.1, r.1)
