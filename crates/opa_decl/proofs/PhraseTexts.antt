-- Texts that are made of tokens are cut into them again.
use Rattle.std.proofs.Common.{◌≡◌, ◌∙◌, ◌<◌, ℕ, Bool, true, false, not, ◌&&◌, List, [], ◌∷◌, ◌++◌, length, map, ◌≢◌, All, refl, sym, ap, ap₂, subst, append-nil, append_assoc, arith}
use Rattle.std.specs.List.{list_all}
use Rattle.std.specs.Str.{chars, IsUtf8}
use Rattle.std.proofs.lemmas.Bool.{and_parts, and_from}
use Rattle.std.proofs.lemmas.List.{length-map, length-append}
use Rattle.std.proofs.lemmas.List.Elements.{All-nil, All-cons, All-head, All-tail, All-append}
use Rattle.std.proofs.lemmas.Str.{IsUtf8-between, chars-nil}
use Rattle.opa_verbs.specs.Forms.{beside}
use Rattle.opa_words.specs.declared.kinds.Token.{Token}
use Rattle.opa_words.specs.Places.{token_text, IsWithin, IsOfKind}
use Rattle.opa_words.specs.Reserved.{joined, phrase_text, are_phrase, begins_well, ends_badly, is_phrase_kind, is_word_kind, is_reserved, is_ending}
use Rattle.opa_words.specs.Pieces.{Piece, IsPiece, IsCutInto, piece, pieces}
use Rattle.opa_words.specs.Written.{Written, AreWritten, text_of, pieces_of, ends_before}
use Rattle.opa_words.proofs.Writing.{written_is_cut_holds}
use Rattle.opa_words.proofs.Letters.{token_starts, Starts}
use Rattle.opa_verbs.specs.Phrasing.{IsWorded, IsPhrase}
use Rattle.opa_decl.proofs.NumberedLaws.{no_parts}

-- tokens of a text
pub record AreOf (bytes : List ℕ) (ts : List Token) : Type 0 where
  pub utf8 : IsUtf8 bytes
  pub within : All (IsWithin bytes) ts
  pub kinds : All (IsOfKind bytes) ts

-- a Word or a Number
abbrev pub IsSpoken : Piece → Type 0
IsSpoken p = IsPiece p × (is_phrase_kind p.kind ≡ true)

abbrev pub texts_joined : List Piece → List ℕ
texts_joined ps = joined (map (λ p. p.text) ps)

spoken_token : (bytes : List ℕ) (t : Token) → IsUtf8 bytes → IsWithin bytes t → IsOfKind bytes t → is_phrase_kind t.kind ≡ true → IsSpoken (piece bytes t)
spoken_token bytes t utf8 within of_kind is = (record { utf8 = IsUtf8-between bytes t.start t.end utf8 within.order within.from within.to; token = of_kind }, is)

pub spoken_tokens : (bytes : List ℕ) (ts : List Token) → AreOf bytes ts → list_all (λ t. is_phrase_kind t.kind) ts ≡ true → All IsSpoken (pieces bytes ts)
spoken_tokens bytes [] are h = All-nil IsSpoken
spoken_tokens bytes (t ∷ ts) are h =
    let p = and_parts (is_phrase_kind t.kind) (list_all (λ (u : Token). is_phrase_kind u.kind) ts) h in
    All-cons IsSpoken (piece bytes t) (pieces bytes ts) (spoken_token bytes t are.utf8 (All-head (IsWithin bytes) t ts are.within) (All-head (IsOfKind bytes) t ts are.kinds) p.0)
    (spoken_tokens bytes ts (record { utf8 = are.utf8; within = All-tail (IsWithin bytes) t ts are.within; kinds = All-tail (IsOfKind bytes) t ts are.kinds }) p.1)

texts_of_pieces : (bytes : List ℕ) (ts : List Token) → map (λ p. p.text) (pieces bytes ts) ≡ map (token_text bytes) ts
texts_of_pieces bytes [] = refl
texts_of_pieces bytes (t ∷ ts) = ap (λ (xs : List (List ℕ)). token_text bytes t ∷ xs) (texts_of_pieces bytes ts)

-- the text of a phrase is that of its pieces
pub phrase_joined : (bytes : List ℕ) (ts : List Token) → phrase_text bytes ts ≡ texts_joined (pieces bytes ts)
phrase_joined bytes ts = ap joined (sym (texts_of_pieces bytes ts))

-- ---- pieces with a space between them

behind : List Piece → List Written
behind [] = []
behind (p ∷ ps) = record { spaced = true; piece = p } ∷ behind ps

all_written : Piece → List Piece → List Written
all_written p ps = record { spaced = false; piece = p } ∷ behind ps

text_behind : (p : Piece) (ps : List Piece) → p.text ++ text_of (behind ps) ≡ texts_joined (p ∷ ps)
unfolding behind
text_behind p [] = append-nil p.text
text_behind p (q ∷ ps) = ap (λ (r : List ℕ). p.text ++ 32 ∷ r) (text_behind q ps)

are_behind : (ps : List Piece) → All IsSpoken ps → AreWritten (behind ps)
unfolding behind
are_behind [] h = tt
are_behind (p ∷ []) h = ((All-head IsSpoken p [] h).0, refl, tt)
are_behind (p ∷ q ∷ ps) h = ((All-head IsSpoken p (q ∷ ps) h).0, refl, are_behind (q ∷ ps) (All-tail IsSpoken p (q ∷ ps) h))

ends_first : (p : Piece) (ps : List Piece) → ends_before p (behind ps) ≡ true
unfolding behind
ends_first p [] = refl
ends_first p (q ∷ ps) = refl

pieces_behind : (ps : List Piece) → pieces_of (behind ps) ≡ ps
unfolding behind
pieces_behind [] = refl
pieces_behind (p ∷ ps) = ap (λ (qs : List Piece). p ∷ qs) (pieces_behind ps)

cut_again : (ps : List Piece) → 0 < length ps → All IsSpoken ps → IsCutInto (texts_joined ps) ps
unfolding all_written
cut_again [] some h = absurd (omega (arith, some))
cut_again (p ∷ ps) some h =
    let cut = (written_is_cut_holds (all_written p ps) ((All-head IsSpoken p ps h).0, ends_first p ps, are_behind ps (All-tail IsSpoken p ps h))).1 in
    subst (λ (qs : List Piece). IsCutInto (texts_joined (p ∷ ps)) qs) (ap (λ (qs : List Piece). p ∷ qs) (pieces_behind ps)) (subst (λ (x : List ℕ). IsCutInto x (pieces_of (all_written p ps))) (text_behind p ps) cut)

-- ---- what is worded, and what is a phrase

abbrev all_kinds : List Piece → Bool
all_kinds ps = list_all (λ p. is_phrase_kind p.kind) ps

kinds_same : (bytes : List ℕ) (ts : List Token) → list_all (λ t. is_phrase_kind t.kind) ts ≡ all_kinds (pieces bytes ts)
kinds_same bytes [] = refl
kinds_same bytes (t ∷ ts) = ap (λ (b : Bool). is_phrase_kind t.kind && b) (kinds_same bytes ts)

kinds_spoken : (ps : List Piece) → All IsSpoken ps → all_kinds ps ≡ true
kinds_spoken [] h = refl
kinds_spoken (p ∷ ps) h = and_from (is_phrase_kind p.kind) (all_kinds ps) (All-head IsSpoken p ps h).1 (kinds_spoken ps (All-tail IsSpoken p ps h))

pub worded_again : (ps : List Piece) → 0 < length ps → All IsSpoken ps → IsWorded (texts_joined ps)
worded_again ps some h =
    let cut = cut_again ps some h in
    let many : length cut.0 ≡ length ps = sym (length-map cut.0 (piece (texts_joined ps))) ∙ ap length cut.2 in
    record {
      tokens = cut.0;
      cut = cut.1;
      some = omega (arith, many, some);
      words = kinds_same (texts_joined ps) cut.0 ∙ ap all_kinds cut.2 ∙ kinds_spoken ps h;
      spaced = phrase_joined (texts_joined ps) cut.0 ∙ ap texts_joined cut.2;
    }

abbrev begins : List Piece → Bool
begins [] = false
begins (p ∷ ps) = is_word_kind p.kind && not (is_reserved p.text)

abbrev ends : List Piece → Bool
ends [] = false
ends (p ∷ []) = is_word_kind p.kind && is_ending p.text
ends (p ∷ q ∷ ps) = ends (q ∷ ps)

begins_same : (bytes : List ℕ) (ts : List Token) → begins_well bytes ts ≡ begins (pieces bytes ts)
begins_same bytes [] = refl
begins_same bytes (t ∷ ts) = refl

ends_same : (bytes : List ℕ) (ts : List Token) → ends_badly bytes ts ≡ ends (pieces bytes ts)
ends_same bytes [] = refl
ends_same bytes (t ∷ []) = refl
ends_same bytes (t ∷ u ∷ ts) = ends_same bytes (u ∷ ts)

abbrev phrased : List Piece → Bool
phrased ps = begins ps && all_kinds ps && not (ends ps)

phrase_same : (bytes : List ℕ) (ts : List Token) → are_phrase bytes ts ≡ phrased (pieces bytes ts)
phrase_same bytes ts = ap₂ (λ (a b : Bool). a && b) (ap₂ (λ (a b : Bool). a && b) (begins_same bytes ts) (kinds_same bytes ts)) (ap not (ends_same bytes ts))

some_tokens : (bytes : List ℕ) (ts : List Token) → begins_well bytes ts ≡ true → 0 < length (pieces bytes ts)
some_tokens bytes [] h = absurd (cc h)
some_tokens bytes (t ∷ ts) h = omega arith

pub phrase_again : (bytes : List ℕ) (ts : List Token) → AreOf bytes ts → are_phrase bytes ts ≡ true → IsPhrase (phrase_text bytes ts)
phrase_again bytes ts are h =
    let most = and_parts (begins_well bytes ts && list_all (λ (t : Token). is_phrase_kind t.kind) ts) (not (ends_badly bytes ts)) h in
    let parts = and_parts (begins_well bytes ts) (list_all (λ (t : Token). is_phrase_kind t.kind) ts) most.0 in
    let ps = pieces bytes ts in
    let cut = cut_again ps (some_tokens bytes ts parts.0) (spoken_tokens bytes ts are parts.1) in
    subst IsPhrase (sym (phrase_joined bytes ts)) (record {
      tokens = cut.0;
      cut = cut.1;
      phrase = phrase_same (texts_joined ps) cut.0 ∙ ap phrased cut.2 ∙ sym (phrase_same bytes ts) ∙ h;
      spaced = phrase_joined (texts_joined ps) cut.0 ∙ ap texts_joined cut.2;
    })

-- ---- texts beside each other

-- a text that is made of Words and Numbers
pub record IsSaid (text : List ℕ) : Type 0 where
  pub pieces : List Piece
  pub spoken : All IsSpoken pieces
  pub text_is : text ≡ texts_joined pieces

-- of one at least
pub record IsSaidFully (text : List ℕ) : Type 0 where
  pub said : IsSaid text
  pub some : 0 < length said.pieces

pub worded_said : (text : List ℕ) → IsSaidFully text → IsWorded text
worded_said text h = subst IsWorded (sym h.said.text_is) (worded_again h.said.pieces h.some h.said.spoken)

-- no token is empty
not_empty : (p : Piece) → IsSpoken p → p.text ≢ []
not_empty p h empty = subst (λ (cs : List ℕ). Starts p.kind cs) (ap chars empty ∙ chars-nil) (token_starts p.kind (chars p.text) h.0.token)

some_text : (p : Piece) (ps : List Piece) → IsSpoken p → texts_joined (p ∷ ps) ≢ []
some_text p [] h empty = not_empty p h empty
some_text p (q ∷ ps) h empty = not_empty p h (no_parts p.text (32 ∷ texts_joined (q ∷ ps)) empty).0

beside_nothing : (left : List ℕ) → beside left [] ≡ left
beside_nothing [] = refl
beside_nothing (b ∷ bs) = refl

beside_some : (left right : List ℕ) → left ≢ [] → right ≢ [] → beside left right ≡ left ++ 32 ∷ right
beside_some [] right l r = absurd (l refl)
beside_some (b ∷ bs) [] l r = absurd (r refl)
beside_some (b ∷ bs) (c ∷ cs) l r = refl

joined_both : (p : Piece) (ps : List Piece) (q : Piece) (qs : List Piece) → texts_joined (p ∷ ps ++ q ∷ qs) ≡ texts_joined (p ∷ ps) ++ 32 ∷ texts_joined (q ∷ qs)
joined_both p [] q qs = refl
joined_both p (r ∷ ps) q qs =
    ap (λ (x : List ℕ). p.text ++ 32 ∷ x) (joined_both r ps q qs) ∙ sym (append_assoc p.text (32 ∷ texts_joined (r ∷ ps)) (32 ∷ texts_joined (q ∷ qs)))

beside_joined : (ps qs : List Piece) → All IsSpoken ps → All IsSpoken qs → beside (texts_joined ps) (texts_joined qs) ≡ texts_joined (ps ++ qs)
beside_joined [] qs h k = refl
beside_joined (p ∷ ps) [] h k = beside_nothing (texts_joined (p ∷ ps)) ∙ ap texts_joined (sym (append-nil (p ∷ ps)))
beside_joined (p ∷ ps) (q ∷ qs) h k =
    beside_some (texts_joined (p ∷ ps)) (texts_joined (q ∷ qs)) (some_text p ps (All-head IsSpoken p ps h)) (some_text q qs (All-head IsSpoken q qs k)) ∙ sym (joined_both p ps q qs)

pub said_beside : (left right : List ℕ) → IsSaid left → IsSaid right → IsSaid (beside left right)
said_beside left right l r = record {
  pieces = l.pieces ++ r.pieces;
  spoken = All-append IsSpoken l.pieces r.pieces l.spoken r.spoken;
  text_is = ap₂ beside l.text_is r.text_is ∙ beside_joined l.pieces r.pieces l.spoken r.spoken;
}

pub fully_beside : (left right : List ℕ) → IsSaidFully left → IsSaid right → IsSaidFully (beside left right)
unfolding said_beside
fully_beside left right l r = record { said = said_beside left right l.said r; some = omega (arith, l.some, length-append l.said.pieces r.pieces) }
