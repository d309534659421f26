-- The words of a phrase at the front of written tokens, and that no longer phrase stands there.
use Rattle.std.proofs.Common.{◌≡◌, ◌<◌, ◌≤◌, ℕ, zero, suc, List, [], ◌∷◌, ◌++◌, length, take, map, Bool, true, false, cond, All, refl, sym, ap, subst, ◌∙◌, arith, append_assoc, append-nil}
use Rattle.std.specs.Prelude.{codes, ◌==◌}
use Rattle.std.specs.Char.{is_ascii_digit}
use Rattle.std.specs.List.{list_any, list_all}
use Rattle.std.specs.Str.{IsUtf8}
use Rattle.std.proofs.lemmas.Bool.{and_parts}
use Rattle.opa_io.proofs.Bools.{never_both}
use Rattle.opa_words.specs.declared.kinds.Token.{Token}
use Rattle.opa_words.specs.Places.{IsWithin, IsOfKind}
use Rattle.opa_words.specs.Reserved.{joined, phrase_text, is_phrase_kind}
use Rattle.opa_words.proofs.PlaceLaws.{tokens_within, tokens_of_kind}
use Rattle.opa_words.specs.Pieces.{Piece, word, number, piece, pieces}
use Rattle.opa_words.specs.Written.{Written}
use Rattle.opa_verbs.specs.Phrasing.{IsWorded, IsPhrase}
use Rattle.opa_sentence.specs.Lexemes.{Lexeme}
use Rattle.opa_sentence.specs.Phrases.{front_text}
use Rattle.opa_wording.specs.Told.{all_told, ends, may_follow, is_sign}
use Rattle.opa_wording.specs.Wordings.{token, phrase, phrase_word, words_from}
use Rattle.opa_wording.proofs.PhrasePieces.{IsWordPiece, AreWordPieces, behind, led, skip, split, of_tokens, text_led, IsLed, phrase_led}

-- ---- texts of words

-- Words and Numbers, joined by one space
pub record IsStrung (text : List ℕ) : Type 0 where
  pub first : Piece
  pub later : List Piece
  pub is_first : IsWordPiece first
  pub are_later : AreWordPieces later
  pub text_is : text ≡ first.text ++ led later

strung_tokens : (text : List ℕ) → IsUtf8 text → (ts : List Token) → All (IsWithin text) ts → All (IsOfKind text) ts → 0 < length ts → list_all (λ t. is_phrase_kind t.kind) ts ≡ true → phrase_text text ts ≡ text → IsStrung text
strung_tokens text u [] w k some h e = absurd (omega (arith, some))
strung_tokens text u (t ∷ ts) w k some h e =
    let all = of_tokens text (t ∷ ts) u w k h in
    record { first = piece text t; later = pieces text ts; is_first = all.0; are_later = all.1; text_is = sym e ∙ text_led text t ts }

pub worded_strung : (text : List ℕ) → IsUtf8 text → IsWorded text → IsStrung text
worded_strung text u h = strung_tokens text u h.tokens (tokens_within text h.tokens u h.cut) (tokens_of_kind text h.tokens u h.cut) h.some h.words h.spaced

pub led_strung : (text : List ℕ) → IsLed text → IsStrung text
led_strung text h = record { first = h.first; later = h.later; is_first = h.is_first; are_later = h.are_later; text_is = h.text_is }

pub phrase_strung : (text : List ℕ) → IsUtf8 text → IsPhrase text → IsStrung text
phrase_strung text u h = led_strung text (phrase_led text u h)

pub strung_split : (text : List ℕ) (h : IsStrung text) (s : Bool) → phrase s text ≡ token s h.first ∷ behind h.later
strung_split text h s = ap (words_from s []) h.text_is ∙ split s h.first h.later h.is_first h.are_later

-- ---- a sign after words

led_on : (p : Piece) (ps : List Piece) (xs : List ℕ) → led (p ∷ ps) ++ xs ≡ 32 ∷ (p.text ++ (led ps ++ xs))
led_on p ps xs = ap (λ t. 32 ∷ t) (append_assoc p.text (led ps) xs)

split_on : (s : Bool) (p : Piece) (ps : List Piece) (xs : List ℕ) → IsWordPiece p → AreWordPieces ps → words_from s [] (p.text ++ (led ps ++ 32 ∷ xs)) ≡ token s p ∷ (behind ps ++ words_from true [] xs)
split_on s p [] xs h hs = skip s [] p.text (32 ∷ xs) h.unspaced ∙ ap (λ q. token s q ∷ words_from true [] xs) h.as_word
split_on s p (q ∷ ps) xs h hs =
    ap (λ t. words_from s [] (p.text ++ t)) (led_on q ps (32 ∷ xs)) ∙ skip s [] p.text (32 ∷ (q.text ++ (led ps ++ 32 ∷ xs))) h.unspaced
    ∙ ap (λ r. token s r ∷ words_from true [] (q.text ++ (led ps ++ 32 ∷ xs))) h.as_word ∙ ap (λ ws. token s p ∷ ws) (split_on true q ps xs hs.0 hs.1)

-- what begins with a character is a word that begins with it
record BeginsWith (s : Bool) (c : ℕ) (ws : List Written) : Type 0 where
  pub later : List ℕ
  pub rest : List Written
  pub is : ws ≡ token s (phrase_word (c ∷ later)) ∷ rest

begun : (s : Bool) (c : ℕ) (w cs : List ℕ) → BeginsWith s c (words_from s (c ∷ w) cs)
begun s c w [] = record { later = w; rest = []; is = refl }
begun s c w (d ∷ cs) = go (d == 32) (begun s c (w ++ d ∷ []) cs)
  where
    go : (b : Bool) → BeginsWith s c (words_from s (c ∷ (w ++ d ∷ [])) cs) → BeginsWith s c (cond b (token s (phrase_word (c ∷ w)) ∷ words_from true [] cs) (words_from s (c ∷ (w ++ d ∷ [])) cs))
    go true h = record { later = w; rest = words_from true [] cs; is = refl }
    go false h = h

-- a sign is no space
sign_spaced : (c : ℕ) → list_any (λ d. c == d) (codes "),+-*/=<>") ≡ true → (c == 32) ≡ false
sign_spaced c h = grind (arith, h)

signed_words : (c : ℕ) (cs : List ℕ) → is_sign (c ∷ cs) ≡ true → BeginsWith true c (words_from true [] (c ∷ cs))
signed_words c cs h = subst (λ b. BeginsWith true c (cond b (token true (phrase_word []) ∷ words_from true [] cs) (words_from true (c ∷ []) cs))) (sym (sign_spaced c h)) (begun true c [] cs)

word_text : (c : ℕ) (cs : List ℕ) → (phrase_word (c ∷ cs)).text ≡ c ∷ cs
word_text c cs = go (is_ascii_digit c)
  where
    go : (b : Bool) → (cond b (number (c ∷ cs)) (word (c ∷ cs))).text ≡ c ∷ cs
    go true = refl
    go false = refl

abbrev first_piece : List Written → Piece
first_piece [] = word []
first_piece (w ∷ ws) = w.piece

none_signed : (ps qs : List Piece) (x : Piece) (rest : List Written) → AreWordPieces qs → behind ps ++ token true x ∷ rest ≡ behind qs → is_sign x.text ≡ true → ⊥
none_signed [] [] x rest h e s = absurd (cc e)
none_signed [] (q ∷ qs) x rest h e s = let same : x ≡ q = ap first_piece e in never_both (is_sign x.text) s (ap (λ (p : Piece). is_sign p.text) same ∙ h.0.unsigned)
none_signed (p ∷ ps) [] x rest h e s = absurd (cc e)
none_signed (p ∷ ps) (q ∷ qs) x rest h e s = let same : behind ps ++ token true x ∷ rest ≡ behind qs = cc e in none_signed ps qs x rest h.1 same s

unsigned_after : (ps qs : List Piece) (t more : List ℕ) → AreWordPieces qs → is_sign t ≡ true → behind ps ++ words_from true [] (t ++ more) ≡ behind qs → ⊥
unsigned_after ps qs [] more h s e = absurd (cc s)
unsigned_after ps qs (c ∷ cs) more h s e =
    let b = signed_words c (cs ++ more) s in
    none_signed ps qs (phrase_word (c ∷ b.later)) b.rest h (ap (λ ws. behind ps ++ ws) (sym b.is) ∙ e) (ap is_sign (word_text c b.later) ∙ s)

-- no phrase goes on after words with a sign
pub no_sign_inside : (p : Piece) (ps : List Piece) → IsWordPiece p → AreWordPieces ps → (t more other : List ℕ) → is_sign t ≡ true → IsStrung other → other ≡ p.text ++ (led ps ++ 32 ∷ (t ++ more)) → ⊥
no_sign_inside p ps hp hps t more other s h e =
    let two : token true h.first ∷ behind h.later ≡ token true p ∷ (behind ps ++ words_from true [] (t ++ more)) = sym (strung_split other h true) ∙ ap (words_from true []) e ∙ split_on true p ps (t ++ more) hp hps in
    let later : behind ps ++ words_from true [] (t ++ more) ≡ behind h.later = cc two in
    unsigned_after ps h.later t more h.are_later s later

-- ---- the texts of fronts

abbrev texts : List Lexeme → List (List ℕ)
texts ts = map (λ t. t.text) ts

abbrev strung : List (List ℕ) → List ℕ
strung [] = []
strung (x ∷ xs) = 32 ∷ (x ++ strung xs)

joined_strung : (x : List ℕ) (xs : List (List ℕ)) → joined (x ∷ xs) ≡ x ++ strung xs
joined_strung x [] = sym (append-nil x)
joined_strung x (y ∷ ys) = ap (λ t. x ++ 32 ∷ t) (joined_strung y ys)

told_length : (ps : List Piece) → length (all_told (behind ps)) ≡ length ps
told_length [] = refl
told_length (p ∷ ps) = ap suc (told_length ps)

exactly : (ps : List Piece) (rest : List Lexeme) → strung (texts (take (length ps) (all_told (behind ps) ++ rest))) ≡ led ps
exactly [] rest = refl
exactly (p ∷ ps) rest = ap (λ t. 32 ∷ (p.text ++ t)) (exactly ps rest)

record GoesOn (ps : List Piece) (t : Lexeme) (text : List ℕ) : Type 0 where
  pub more : List ℕ
  pub is : text ≡ led ps ++ 32 ∷ (t.text ++ more)

beyond : (ps : List Piece) (t : Lexeme) (ts : List Lexeme) (k : ℕ) → length ps < k → GoesOn ps t (strung (texts (take k (all_told (behind ps) ++ t ∷ ts))))
beyond ps t ts zero h = absurd (omega (arith, h))
beyond [] t ts (suc k) h = record { more = strung (texts (take k ts)); is = refl }
beyond (p ∷ ps) t ts (suc k) h =
    let r = beyond ps t ts k (omega (arith, h)) in
    record { more = r.more; is = ap (λ x. 32 ∷ (p.text ++ x)) r.is ∙ ap (λ x. 32 ∷ x) (sym (append_assoc p.text (led ps) (32 ∷ (t.text ++ r.more)))) }

pub exact_front : (s : Bool) (p : Piece) (ps : List Piece) (rest : List Lexeme) → front_text (suc (length ps)) (all_told (token s p ∷ behind ps) ++ rest) ≡ p.text ++ led ps
exact_front s p ps rest = joined_strung p.text (texts (take (length ps) (all_told (behind ps) ++ rest))) ∙ ap (λ t. p.text ++ t) (exactly ps rest)

-- no more of the tokens are a phrase, where a sign follows or nothing
pub no_longer_front : (s : Bool) (p : Piece) (ps : List Piece) → IsWordPiece p → AreWordPieces ps → (rest : List Lexeme) → ends rest ≡ true → (k : ℕ) → suc (length ps) < k → k ≤ length (all_told (token s p ∷ behind ps) ++ rest)
    → (other : List ℕ) → IsStrung other → other ≡ front_text k (all_told (token s p ∷ behind ps) ++ rest) → ⊥
no_longer_front s p ps hp hps rest e zero low high other h is = absurd (omega (arith, low))
no_longer_front s p ps hp hps [] e (suc k) low high other h is =
    let none : length (all_told (behind ps) ++ []) ≡ length ps = ap length (append-nil (all_told (behind ps))) ∙ told_length ps in
    absurd (omega (arith, low, high, none))
no_longer_front s p ps hp hps (t ∷ ts) e (suc k) low high other h is =
    let sign = (and_parts (may_follow t.class) (is_sign t.text) e).1 in
    let r = beyond ps t ts k (omega (arith, low)) in
    no_sign_inside p ps hp hps t.text r.more other sign h (is ∙ joined_strung p.text (texts (take k (all_told (behind ps) ++ t ∷ ts))) ∙ ap (λ x. p.text ++ x) r.is)

-- ---- one of many texts

all_texts : (ps : List Piece) → strung (texts (all_told (behind ps))) ≡ led ps
all_texts [] = refl
all_texts (p ∷ ps) = ap (λ t. 32 ∷ (p.text ++ t)) (all_texts ps)

pub joined_texts : (s : Bool) (p : Piece) (ps : List Piece) → joined (map (λ (t : Lexeme). t.text) (all_told (token s p ∷ behind ps))) ≡ p.text ++ led ps
joined_texts s p ps = joined_strung p.text (texts (all_told (behind ps))) ∙ ap (λ t. p.text ++ t) (all_texts ps)
