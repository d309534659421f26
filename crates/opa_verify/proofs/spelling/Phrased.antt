-- Phrases that are cut into their tokens again.
use Rattle.std.proofs.Common.{◌≡◌, ℕ, length, List, [], ◌∷◌, Bool, true, false, not, ◌&&◌, refl, sym, ap, subst, ◌∙◌, arith}
use Rattle.std.specs.Str.{chars, IsUtf8}
use Rattle.std.specs.Prelude.{codes}
use Rattle.opa_words.specs.declared.kinds.Token.{Token}
use Rattle.opa_words.specs.declared.kinds.TokenKind.{TokenKind}
use Rattle.opa_words.specs.declared.kinds.TokenKind.TheVariants as kind
use Rattle.opa_words.specs.Cuts.{Cuts, Stuck}
use Rattle.opa_words.specs.Places.{token_text}
use Rattle.opa_words.specs.Pieces.{Piece, pieces, piece, word}
use Rattle.opa_words.specs.Reserved.{are_phrase, phrase_text, is_word_kind, is_phrase_kind, is_reserved, is_ending}
use Rattle.opa_words.specs.Written.{Written, joined}
use Rattle.opa_words.proofs.LawsHold.{written_is_cut_holds}
use Rattle.opa_words.proofs.OneCut.{one_cut_holds, cut_or_stuck_holds}
use Rattle.opa_verbs.specs.Phrasing.{IsPhrase}
use Rattle.opa_text.proofs.WrittenValues.{none_piece}
use Rattle.opa_verify.specs.Spelling.Spelling.{CanBePhrase, is_plain}

-- ---- what is read as a phrase

pub phrase_is : (text phrase : List ℕ) (ts : List Token) → IsUtf8 text → Cuts (length text) (chars text) ts → are_phrase text ts ≡ true → phrase ≡ phrase_text text ts → phrase ≡ text → is_plain text ≡ true → CanBePhrase phrase × (phrase ≡ text)
phrase_is text phrase ts u cuts are p is plain =
    (subst CanBePhrase (sym is) (record { utf8 = u; phrase = record { tokens = ts; cut = cuts; phrase = are; spaced = sym p ∙ is }; plain = plain }), is)

-- where one of these fails, the text is no phrase

pub unplain_isnt : (text : List ℕ) → is_plain text ≡ false → (t : List ℕ) → CanBePhrase t → t ≡ text → ⊥
unplain_isnt text h t can e = let f : true ≡ false = sym can.plain ∙ ap is_plain e ∙ h in absurd (cc f)

pub stuck_isnt : (text : List ℕ) (p : ℕ) → Stuck (length text) (chars text) p → (t : List ℕ) → CanBePhrase t → t ≡ text → ⊥
stuck_isnt text p stuck t can e =
    let is : IsPhrase text = subst IsPhrase e can.phrase in
    cut_or_stuck_holds (length text) (chars text) is.tokens p is.cut stuck

pub unphrased_isnt : (text : List ℕ) (ts : List Token) → Cuts (length text) (chars text) ts → are_phrase text ts ≡ false → (t : List ℕ) → CanBePhrase t → t ≡ text → ⊥
unphrased_isnt text ts cuts h t can e =
    let is : IsPhrase text = subst IsPhrase e can.phrase in
    let same : is.tokens ≡ ts = one_cut_holds (length text) (chars text) is.tokens ts is.cut cuts in
    let f : true ≡ false = sym is.phrase ∙ ap (are_phrase text) same ∙ h in absurd (cc f)

pub unspaced_isnt : (text phrase : List ℕ) (ts : List Token) → Cuts (length text) (chars text) ts → phrase ≡ phrase_text text ts → (phrase ≡ text → ⊥) → (t : List ℕ) → CanBePhrase t → t ≡ text → ⊥
unspaced_isnt text phrase ts cuts p n t can e =
    let is : IsPhrase text = subst IsPhrase e can.phrase in
    let same : is.tokens ≡ ts = one_cut_holds (length text) (chars text) is.tokens ts is.cut cuts in
    n (p ∙ ap (phrase_text text) (sym same) ∙ is.spaced)

pub unread_isnt : (text : List ℕ) → (IsUtf8 text → ⊥) → (t : List ℕ) → CanBePhrase t → t ≡ text → ⊥
unread_isnt text n t can e = n (subst IsUtf8 e can.utf8)

-- ---- a phrase

fits : TokenKind → List ℕ → Bool
fits k w = (is_word_kind k && not (is_reserved w)) && (is_phrase_kind k && true) && not (is_word_kind k && is_ending w)

one_token : (ts : List Token) → pieces (codes "none") ts ≡ word (codes "none") ∷ [] → (are_phrase (codes "none") ts ≡ true) × (phrase_text (codes "none") ts ≡ codes "none")
unfolding fits
one_token [] e = absurd (cc e)
one_token (t ∷ u ∷ ts) e = absurd (let n : length (pieces (codes "none") (t ∷ u ∷ ts)) ≡ 1 = ap length e in omega (arith, n))
one_token (t ∷ []) e =
    let p : piece (codes "none") t ≡ word (codes "none") = cc e in
    let k : t.kind ≡ kind.Word = ap (λ (q : Piece). q.kind) p in
    let w : token_text (codes "none") t ≡ codes "none" = ap (λ (q : Piece). q.text) p in
    (ap (λ l. fits l (token_text (codes "none") t)) k ∙ ap (fits kind.Word) w, w)

pub none_phrase : CanBePhrase (codes "none")
none_phrase =
    let ws : List Written = joined (word (codes "none")) ∷ [] in
    let cut = written_is_cut_holds ws (none_piece, refl, tt) in
    let is = one_token cut.1.0 cut.1.2 in
    record { utf8 = cut.0; phrase = record { tokens = cut.1.0; cut = cut.1.1; phrase = is.0; spaced = is.1 }; plain = refl }
