-- What is written token by token is cut into those tokens.
use Rattle.std.proofs.Common.{◌≡◌, ◌+◌, ◌-◌, ℕ, List, [], ◌∷◌, ◌++◌, length, take, drop, Bool, true, false, refl, sym, ap, subst, ◌∙◌, arith, append_assoc, length-append}
use Rattle.std.specs.Prelude.{◌||◌}
use Rattle.std.specs.List.{slice_range}
use Rattle.std.specs.Str.{chars, IsUtf8}
use lib.Utf8.{encode}
use Rattle.std.proofs.lemmas.Str.{IsUtf8-append, IsUtf8-nil, chars-append, chars-nil}
use Rattle.std.proofs.Math.Seq.{drop-append_seam, take-append_seam}
use Rattle.opa_words.specs.declared.kinds.TokenKind.{TokenKind}
use Rattle.opa_words.specs.declared.kinds.TokenKind.TheVariants as kind
use Rattle.opa_words.specs.declared.kinds.Token.{Token}
use Rattle.opa_words.specs.Characters.{width, is_blank}
use Rattle.opa_words.specs.Kinds.{IsToken, IsLongest, is_single}
use Rattle.opa_words.specs.Cuts as c
use Rattle.opa_words.specs.Cuts.{Cuts}
use Rattle.opa_words.proofs.CutLaws.{width_chars}
use Rattle.opa_words.proofs.Letters.{token_starts, starts, Starts, none_of}
use Rattle.opa_words.proofs.PlaceLaws.{width-append}
use Rattle.opa_words.specs.Pieces.{Piece, IsPiece, pieces}
use Rattle.opa_words.specs.Written.{Written, AreWritten, text_of, pieces_of, gap, ends_before, begins_apart, stands_alone}
use Rattle.opa_words.specs.PieceLaws.{WrittenIsCut}
use Rattle.opa_words.proofs.LongestPieces.{Ends, longest_before, longest_single}
use Rattle.std.specs.Prelude.{◌==◌, codes}
use Rattle.std.specs.List.{list_any}
use Rattle.ucd_derived.proofs.Computing.{ucd_derived}
use Rattle.opa_words.specs.Characters.{begins_word, is_digit}

-- ---- no token begins with a blank

no_letter : (c : ℕ) → list_any (λ d. c == d) (32 ∷ 9 ∷ []) ≡ true → begins_word c ≡ true → ⊥
unfolding ucd_derived
no_letter c h = none_of begins_word c (32 ∷ 9 ∷ []) refl h

as_listed : (c : ℕ) → is_blank c ≡ true → list_any (λ d. c == d) (32 ∷ 9 ∷ []) ≡ true
as_listed c h = grind (arith, h)

blank_starts : (k : TokenKind) (c : ℕ) → starts k c ≡ true → is_blank c ≡ true → ⊥
blank_starts kind.Word c s h = no_letter c (as_listed c h) s
blank_starts kind.Number c s h = none_of is_digit c (32 ∷ 9 ∷ []) refl (as_listed c h) s
blank_starts kind.Date c s h = none_of is_digit c (32 ∷ 9 ∷ []) refl (as_listed c h) s
blank_starts kind.Text c s h = none_of (λ d. d == 34) c (32 ∷ 9 ∷ []) refl (as_listed c h) s
blank_starts kind.Symbol c s h = none_of is_blank c (codes "()[],:;/+-*=<>") refl s h

not_blank : (k : TokenKind) (c : ℕ) → starts k c ≡ true → is_blank c ≡ false
not_blank k c s = go (is_blank c) refl
  where
    go : (t : Bool) → is_blank c ≡ t → is_blank c ≡ false
    go true e = absurd (blank_starts k c s e)
    go false e = e

-- ---- what a token is followed by

alone_single : (cs : List ℕ) → stands_alone cs ≡ true → (b : ℕ) × (cs ≡ b ∷ []) × (is_single b ≡ true)
alone_single [] h = absurd (cc h)
alone_single (b ∷ []) h = (b, refl, h)
alone_single (b ∷ c ∷ cs) h = absurd (cc h)

single_letter : (b : ℕ) → is_single b ≡ true → begins_word b ≡ true → ⊥
unfolding ucd_derived
single_letter b h s = none_of begins_word b (codes "()[],:;/+-*=") refl h s

-- a single symbol is a token of no other kind
single_symbol : (k : TokenKind) (b : ℕ) → is_single b ≡ true → starts k b ≡ true → k ≡ kind.Symbol
single_symbol kind.Symbol b h s = refl
single_symbol kind.Word b h s = absurd (single_letter b h s)
single_symbol kind.Number b h s = absurd (none_of is_digit b (codes "()[],:;/+-*=") refl h s)
single_symbol kind.Date b h s = absurd (none_of is_digit b (codes "()[],:;/+-*=") refl h s)
single_symbol kind.Text b h s = absurd (none_of (λ d. d == 34) b (codes "()[],:;/+-*=") refl h s)

alone_longest : (k : TokenKind) (p rest : List ℕ) → IsToken k p → stands_alone p ≡ true → IsLongest (p ++ rest) k rest
alone_longest k p rest t h =
    let x = alone_single p h in
    go (x.0) p x.1 x.2 t
  where
    go : (b : ℕ) (p : List ℕ) → p ≡ b ∷ [] → is_single b ≡ true → IsToken k p → IsLongest (p ++ rest) k rest
    go b [] e h t = absurd (cc e)
    go b (c ∷ cs) e h t =
        let first : c ≡ b = cc e in
        let none : cs ≡ [] = cc e in
        let single : is_single c ≡ true = subst (λ x. is_single x ≡ true) (sym first) h in
        let is = single_symbol k c single (token_starts k (c ∷ cs) t) in
        let short : IsToken kind.Symbol (c ∷ []) = subst (λ l. IsToken l (c ∷ [])) is (subst (λ ds. IsToken k (c ∷ ds)) none t) in
        subst (λ ds. IsLongest (c ∷ (ds ++ rest)) k rest) (sym none) (subst (λ l. IsLongest (c ∷ rest) l rest) (sym is) (longest_single c rest single short))

or_cases : (a b : Bool) → (a || b) ≡ true → (a ≡ false → b ≡ true)
or_cases true b h e = absurd (cc e)
or_cases false b h e = h

apart_ends : (cs ds : List ℕ) → begins_apart cs ≡ true → Ends (cs ++ ds)
apart_ends [] ds h = absurd (cc h)
apart_ends (c ∷ cs) ds h = h

space : chars (32 ∷ []) ≡ 32 ∷ []
unfolding chars
space = refl

one_space : IsUtf8 (32 ∷ [])
unfolding encode
one_space = (32 ∷ [], (refl, refl))

utf8_written : (ws : List Written) → AreWritten ws → IsUtf8 (text_of ws)
utf8_written [] h = IsUtf8-nil
utf8_written (w ∷ ws) h = gapped w.spaced (IsUtf8-append w.piece.text (text_of ws) h.0.utf8 (utf8_written ws h.2))
  where
    gapped : (s : Bool) → IsUtf8 (w.piece.text ++ text_of ws) → IsUtf8 (gap s ++ (w.piece.text ++ text_of ws))
    gapped true u = IsUtf8-append (32 ∷ []) (w.piece.text ++ text_of ws) one_space u
    gapped false u = u

spaced_chars : (bs : List ℕ) → chars (32 ∷ bs) ≡ 32 ∷ chars bs
spaced_chars bs = chars-append (32 ∷ []) bs one_space ∙ ap (λ x. x ++ chars bs) space

-- the longest token of a text that goes on with what is written
longest_written : (p : Piece) (ws : List Written) → IsPiece p → AreWritten ws → ends_before p ws ≡ true → IsLongest (chars p.text ++ chars (text_of ws)) p.kind (chars (text_of ws))
longest_written p [] t h e = longest_before p.kind (chars p.text) (chars []) t.token (subst Ends (sym chars-nil) tt)
longest_written p (w ∷ ws) t h e = go w.spaced refl
  where
    tail : List ℕ
    tail = w.piece.text ++ text_of ws

    tail_chars : chars tail ≡ chars w.piece.text ++ chars (text_of ws)
    tail_chars = chars-append w.piece.text (text_of ws) h.0.utf8

    touching : (s : Bool) → begins_apart (chars w.piece.text) ≡ s → (begins_apart (chars w.piece.text) || stands_alone (chars p.text)) ≡ true → IsLongest (chars p.text ++ chars tail) p.kind (chars tail)
    touching true b k = longest_before p.kind (chars p.text) (chars tail) t.token (subst Ends (sym tail_chars) (apart_ends (chars w.piece.text) (chars (text_of ws)) b))
    touching false b k = alone_longest p.kind (chars p.text) (chars tail) t.token (or_cases (begins_apart (chars w.piece.text)) (stands_alone (chars p.text)) k b)

    go : (s : Bool) → w.spaced ≡ s → IsLongest (chars p.text ++ chars (gap w.spaced ++ tail)) p.kind (chars (gap w.spaced ++ tail))
    go true q = subst (λ s. IsLongest (chars p.text ++ chars (gap s ++ tail)) p.kind (chars (gap s ++ tail))) (sym q) (longest_before p.kind (chars p.text) (chars (32 ∷ tail)) t.token (subst Ends (sym (spaced_chars tail)) refl))
    go false q = subst (λ s. IsLongest (chars p.text ++ chars (gap s ++ tail)) p.kind (chars (gap s ++ tail))) (sym q) (touching (begins_apart (chars w.piece.text)) refl (or_cases w.spaced (begins_apart (chars w.piece.text) || stands_alone (chars p.text)) e q))

-- ---- the cut

slice_mid : (pre mid post : List ℕ) (i j : ℕ) → i ≡ length pre → j ≡ length pre + length mid → slice_range (pre ++ (mid ++ post)) i j ≡ mid
slice_mid pre mid post i j e f =
    ap (λ n. take n (drop i (pre ++ (mid ++ post)))) (let n : j - i ≡ length mid = omega (arith, e, f) in n)
    ∙ ap (take (length mid)) (ap (λ n. drop n (pre ++ (mid ++ post))) e ∙ drop-append_seam pre (mid ++ post))
    ∙ take-append_seam mid post

-- what is left to write of these bytes, cut
pub record Rest (bytes : List ℕ) (ws : List Written) : Type 0 where
  pub tokens : List Token
  pub cuts : Cuts (length bytes) (chars (text_of ws)) tokens
  pub same : pieces bytes tokens ≡ pieces_of ws

-- one token before the rest
one_more : (bytes pre : List ℕ) (w : Written) (ws : List Written) → AreWritten (w ∷ ws) → bytes ≡ pre ++ (w.piece.text ++ text_of ws) → Rest bytes ws
    → (ts : List Token) × Cuts (length bytes) (chars w.piece.text ++ chars (text_of ws)) ts × (pieces bytes ts ≡ pieces_of (w ∷ ws))
one_more bytes pre w ws h e r = go (chars w.piece.text) refl (token_starts w.piece.kind (chars w.piece.text) h.0.token) (longest_written w.piece ws h.0 h.2 h.1)
  where
    p : List ℕ
    p = w.piece.text

    rest : List ℕ
    rest = text_of ws

    wide : width (chars p ++ chars rest) ≡ length p + length rest
    wide = width-append (chars p) (chars rest) ∙ ap (λ n. n + width (chars rest)) (width_chars p h.0.utf8) ∙ ap (λ n. length p + n) (width_chars rest (utf8_written ws h.2))

    left_wide : width (chars rest) ≡ length rest
    left_wide = width_chars rest (utf8_written ws h.2)

    total : length bytes ≡ length pre + (length p + length rest)
    total = ap length e ∙ length-append pre (p ++ rest) ∙ ap (λ n. length pre + n) (length-append p rest)

    start : ℕ
    start = length bytes - width (chars p ++ chars rest)

    end : ℕ
    end = length bytes - width (chars rest)

    starts_at : length bytes - width (chars p ++ chars rest) ≡ length pre
    starts_at = omega (arith, wide, total)

    ends_at : length bytes - width (chars rest) ≡ length pre + length p
    ends_at = omega (arith, left_wide, total)

    text : slice_range bytes (length bytes - width (chars p ++ chars rest)) (length bytes - width (chars rest)) ≡ p
    text = ap (λ bs. slice_range bs (length bytes - width (chars p ++ chars rest)) (length bytes - width (chars rest))) e ∙ slice_mid pre p rest (length bytes - width (chars p ++ chars rest)) (length bytes - width (chars rest)) starts_at ends_at

    Result : List ℕ → Type 0
    Result cs = (ts : List Token) × Cuts (length bytes) (cs ++ chars rest) ts × (pieces bytes ts ≡ pieces_of (w ∷ ws))

    go : (cs : List ℕ) → chars p ≡ cs → Starts w.piece.kind cs → IsLongest (cs ++ chars rest) w.piece.kind (chars rest) → Result cs
    go [] q s l = absurd s
    go (b ∷ cs) q s l = (
      record { kind = w.piece.kind; start = length bytes - width (b ∷ (cs ++ chars rest)); end = length bytes - width (chars rest) } ∷ r.tokens,
      c.cut w.piece.kind (chars rest) (not_blank w.piece.kind b s) l r.cuts,
      ap (λ t. record { kind = w.piece.kind; text = t } ∷ pieces bytes r.tokens) (ap (λ cs. slice_range bytes (length bytes - width (cs ++ chars rest)) (length bytes - width (chars rest))) (sym q) ∙ text) ∙ ap (λ ps. w.piece ∷ ps) r.same,
    )

-- what is left to write is cut into what is left to write
written_rest : (bytes pre : List ℕ) (ws : List Written) → AreWritten ws → bytes ≡ pre ++ text_of ws → Rest bytes ws
written_rest bytes pre [] h e = record { tokens = []; cuts = subst (λ cs. Cuts (length bytes) cs []) (sym chars-nil) c.ends; same = refl }
written_rest bytes pre (w ∷ ws) h e = go w.spaced refl e (λ front k. written_rest bytes front ws h.2 k)
  where
    tail : List ℕ
    tail = w.piece.text ++ text_of ws

    tail_chars : chars w.piece.text ++ chars (text_of ws) ≡ chars tail
    tail_chars = sym (chars-append w.piece.text (text_of ws) h.0.utf8)

    go : (s : Bool) → w.spaced ≡ s → bytes ≡ pre ++ (gap s ++ tail) → ((front : List ℕ) → bytes ≡ front ++ text_of ws → Rest bytes ws) → Rest bytes (w ∷ ws)
    go true q e f =
        let apart = e ∙ sym (append_assoc pre (32 ∷ []) tail) in
        let more = f ((pre ++ 32 ∷ []) ++ w.piece.text) (apart ∙ sym (append_assoc (pre ++ 32 ∷ []) w.piece.text (text_of ws))) in
        let x = one_more bytes (pre ++ 32 ∷ []) w ws h apart more in
        record {
          tokens = x.0;
          cuts = subst (λ s. Cuts (length bytes) (chars (gap s ++ tail)) x.0) (sym q) (subst (λ cs. Cuts (length bytes) cs x.0) (sym (spaced_chars tail)) (c.blank refl (subst (λ cs. Cuts (length bytes) cs x.0) tail_chars x.1)));
          same = x.2;
        }
    go false q e f =
        let more = f (pre ++ w.piece.text) (e ∙ sym (append_assoc pre w.piece.text (text_of ws))) in
        let x = one_more bytes pre w ws h e more in
        record {
          tokens = x.0;
          cuts = subst (λ s. Cuts (length bytes) (chars (gap s ++ tail)) x.0) (sym q) (subst (λ cs. Cuts (length bytes) cs x.0) tail_chars x.1);
          same = x.2;
        }

pub written_is_cut_holds : WrittenIsCut
written_is_cut_holds ws h =
    let r = written_rest (text_of ws) [] ws h refl in
    (utf8_written ws h, (r.tokens, r.cuts, r.same))
