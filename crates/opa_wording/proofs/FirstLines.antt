-- The first line of a rule opens it.
use Rattle.std.proofs.Common.{◌≡◌, ◌⊎◌, inl, inr, ◌<◌, ◌+◌, ℕ, zero, suc, List, [], ◌∷◌, ◌++◌, length, map, Bool, true, false, not, cond, Option, Some, None, slice_get, position, All, refl, sym, ap, ap₂, subst, ◌∙◌, append_assoc, append-nil, arith}
use Rattle.std.specs.Prelude.{codes, ◌&&◌, nat_lt, if◌then◌else◌}
use Rattle.std.specs.Option.{option_map}
use Rattle.std.specs.List.{list_all, position_or_len}
use Rattle.std.specs.Str.{IsUtf8, bytes_eq}
use Rattle.std.proofs.lemmas.Bool.{and_parts, not-true}
use Rattle.std.proofs.lemmas.Option.{slice_get_within}
use Rattle.std.proofs.lemmas.Slice.Eq.{bytes_eq-Decides}
use Rattle.opa_model.specs.declared.ids.AttrId.{AttrId}
use Rattle.opa_model.specs.declared.lists.Lists.{Lists}
use Rattle.opa_model.specs.declared.things.Attribute.{Attribute}
use Rattle.opa_model.specs.Lookups.{attribute_at, attribute_phrases, attribute_named}
use Rattle.opa_model.specs.Models.{HasAttribute}
use Rattle.opa_words.specs.declared.kinds.Token.{Token}
use Rattle.opa_words.specs.Reserved.{is_ending, is_word_kind, is_phrase_kind, begins_well, ends_badly, phrase_text}
use Rattle.opa_words.proofs.PlaceLaws.{tokens_within, tokens_of_kind}
use Rattle.opa_words.specs.Pieces.{Piece, IsPiece, word, symbol, piece, pieces}
use Rattle.opa_words.specs.Written.{Written, spaced}
use Rattle.opa_sentence.specs.declared.names.Operand.{Operand}
use Rattle.opa_sentence.specs.Lexemes.{Lexeme, class_of}
use Rattle.opa_sentence.specs.Phrases.{is_word, past_words}
use Rattle.opa_parse.specs.declared.block.Opening.TheVariants as opens
use Rattle.opa_parse.specs.declared.line.Ending.TheVariants as ending
use Rattle.opa_parse.specs.Lines.{ending_of, body}
use Rattle.opa_parse.specs.Naming.{operand, operand_meanings}
use Rattle.opa_verbs.specs.Phrasing.{operand_phrases}
use Rattle.opa_parse.specs.Openings.{front_words, concluded, by_words, by_equals, opening_at, opening, past_one, past_equals}
use Rattle.opa_verbs.specs.Phrasing.{IsPhrase}
use Rattle.opa_wording.specs.Laid.{ended, equated, phrase_words}
use Rattle.opa_wording.specs.Told.{told, all_told}
use Rattle.opa_wording.specs.Wordings.{token, phrase, phrase_of_attribute, words_from}
use Rattle.opa_wording.proofs.Edges.{EndsPlainly, plainly_after, no_ending, token_plain, PhrasesEnd}
use Rattle.opa_wording.proofs.PhrasePieces.{AreWordPieces, behind, split, of_tokens, text_led, IsLed, phrase_split}
use Rattle.opa_wording.proofs.ReadableModels.{attribute_held}
use Rattle.opa_wording.proofs.WordsFound.{joined_texts}
use Rattle.opa_wording.proofs.Foremost.{AllDiffer, one_place}
use Rattle.opa_wording.proofs.PhrasesFound.{meant, IsMeant, plain_first, plain_is_word, wordlike_piece}
use Rattle.opa_wording.proofs.LaidWords.{told_append, word_ending}

-- ---- a phrase ends with no ending

last_piece : (s : Bool) (p : Piece) → IsPiece p → (is_word_kind p.kind && is_ending p.text) ≡ false → EndsPlainly (token s p ∷ [])
last_piece s p is h = token_plain s p (go (is_word_kind p.kind) refl)
  where
    go : (b : Bool) → is_word_kind p.kind ≡ b → is_ending p.text ≡ false
    go true e = ap (λ b. b && is_ending p.text) (sym e) ∙ h
    go false e = no_ending p.kind e p.text is.token

last_plain : (bytes : List ℕ) (s : Bool) (t : Token) (ts : List Token) → ends_badly bytes (t ∷ ts) ≡ false → AreWordPieces (pieces bytes (t ∷ ts)) → EndsPlainly (token s (piece bytes t) ∷ behind (pieces bytes ts))
last_plain bytes s t [] h hs = last_piece s (piece bytes t) hs.0.is h
last_plain bytes s t (u ∷ us) h hs = plainly_after (token s (piece bytes t) ∷ []) (token true (piece bytes u) ∷ behind (pieces bytes us)) (last_plain bytes true u us h hs.1)

tokens_end : (text : List ℕ) (s : Bool) (ts : List Token) → begins_well text ts ≡ true → ends_badly text ts ≡ false → AreWordPieces (pieces text ts) → phrase_text text ts ≡ text → EndsPlainly (phrase s text)
tokens_end text s [] b h hs e = absurd (cc b)
tokens_end text s (t ∷ ts) b h hs e =
    subst EndsPlainly (sym (ap (words_from s []) (sym e ∙ text_led text t ts) ∙ split s (piece text t) (pieces text ts) hs.0 hs.1)) (last_plain text s t ts h hs)

phrase_ends : (text : List ℕ) → IsUtf8 text → IsPhrase text → (s : Bool) → EndsPlainly (phrase s text)
phrase_ends text u h s =
    let most = and_parts (begins_well text h.tokens && list_all (λ (t : Token). is_phrase_kind t.kind) h.tokens) (not (ends_badly text h.tokens)) h.phrase in
    let parts = and_parts (begins_well text h.tokens) (list_all (λ (t : Token). is_phrase_kind t.kind) h.tokens) most.0 in
    tokens_end text s h.tokens parts.0 (not-true (ends_badly text h.tokens) most.1) (of_tokens text h.tokens u (tokens_within text h.tokens u h.cut) (tokens_of_kind text h.tokens u h.cut) parts.1) h.spaced

pub phrases_end : (m : Lists) → All IsPhrase (attribute_phrases m) → All IsUtf8 (attribute_phrases m) → PhrasesEnd m
phrases_end m p u a has s = phrase_ends (phrase_of_attribute (attribute_at m a)) (attribute_held IsUtf8 m.attributes a.0 has u) (attribute_held IsPhrase m.attributes a.0 has p) s

-- ---- which attribute a phrase names

first_len : (t : List ℕ) (ps : List (List ℕ)) (i : ℕ) → slice_get ps i ≡ Some t → ((j : ℕ) → j < i → slice_get ps j ≡ Some t → ⊥) → position_or_len (bytes_eq t) ps ≡ i
first_len t [] i at none = absurd (cc at)
first_len t (p ∷ ps) zero at none = ap (λ b. cond (not b) (1 + position_or_len (bytes_eq t) ps) 0) ((bytes_eq-Decides t p).1 (let e : p ≡ t = cc at in sym e))
first_len t (p ∷ ps) (suc i) at none = go (bytes_eq t p) refl (first_len t ps i at (λ j below h. none (suc j) (omega (arith, below)) h))
  where
    go : (b : Bool) → bytes_eq t p ≡ b → position_or_len (bytes_eq t) ps ≡ i → cond (not b) (1 + position_or_len (bytes_eq t) ps) 0 ≡ suc i
    go true e r = absurd (none 0 (omega arith) (ap (λ x. Some x) (sym ((bytes_eq-Decides t p).0 e))))
    go false e r = omega (arith, r)

positioned : (t : List ℕ) (ps : List (List ℕ)) (i : ℕ) → slice_get ps i ≡ Some t → ((j : ℕ) → j < i → slice_get ps j ≡ Some t → ⊥) → position (bytes_eq t) ps ≡ Some i
positioned t ps i at none =
    let within : nat_lt i (length ps) ≡ true = (let l = slice_get_within ps i t at in grind (arith, l)) in
    ap (λ n. cond (nat_lt n (length ps)) (Some n) None) (first_len t ps i at none) ∙ ap (λ b. cond b (Some i) None) within

phrase_placed : (xs : List Attribute) (i : ℕ) → i < length xs → slice_get (map (λ a. a.phrase) xs) i ≡ Some (phrase_of_attribute (slice_get xs i))
phrase_placed [] i l = absurd (omega (arith, l))
phrase_placed (a ∷ xs) zero l = refl
phrase_placed (a ∷ xs) (suc i) l = phrase_placed xs i (omega (arith, l))

placed_within : (xs : List Attribute) (i : ℕ) (t : List ℕ) → slice_get (map (λ a. a.phrase) xs) i ≡ Some t → i < length xs
placed_within [] i t e = absurd (cc e)
placed_within (a ∷ xs) zero t e = omega arith
placed_within (a ∷ xs) (suc i) t e = let l = placed_within xs i t e in omega (arith, l)

either_way : (i j : ℕ) → (i < j) ⊎ ((j < i) ⊎ (i ≡ j))
either_way i j = go (nat_lt i j) (nat_lt j i) refl refl
  where
    go : (a b : Bool) → nat_lt i j ≡ a → nat_lt j i ≡ b → (i < j) ⊎ ((j < i) ⊎ (i ≡ j))
    go true b p q = inl (grind (arith, p))
    go false true p q = inr (inl (grind (arith, q)))
    go false false p q = inr (inr (grind (arith, p, q)))

-- attributes of one phrase are one
one_attribute : (m : Lists) → AllDiffer (operand_phrases m) → (i j : ℕ) → i < length m.attributes → j < length m.attributes → phrase_of_attribute (slice_get m.attributes i) ≡ phrase_of_attribute (slice_get m.attributes j) → i ≡ j
one_attribute m d i j li lj e =
    let p = meant m 0 m.attributes i li in
    let q = meant m 0 m.attributes j lj in
    let t : List ℕ = phrase_of_attribute (slice_get m.attributes j) in
    let at : slice_get (operand_phrases m) p.place ≡ Some t = p.phrase_at ∙ ap (λ x. Some x) e in
    go p q at (either_way p.place q.place)
  where
    go : (p : IsMeant (operand_phrases m) (operand_meanings m) (phrase_of_attribute (slice_get m.attributes i)) (operand (0 + i) false))
        → (q : IsMeant (operand_phrases m) (operand_meanings m) (phrase_of_attribute (slice_get m.attributes j)) (operand (0 + j) false))
        → slice_get (operand_phrases m) p.place ≡ Some (phrase_of_attribute (slice_get m.attributes j)) → (p.place < q.place) ⊎ ((q.place < p.place) ⊎ (p.place ≡ q.place)) → i ≡ j
    go p q at (inl l) = absurd (one_place (operand_phrases m) d _ q.place p.place q.phrase_at l at)
    go p q at (inr (inl l)) = absurd (one_place (operand_phrases m) d _ p.place q.place at l q.phrase_at)
    go p q at (inr (inr same)) =
        let means : Some (operand (0 + i) false) ≡ Some (operand (0 + j) false) = sym p.meaning_at ∙ ap (slice_get (operand_meanings m)) same ∙ q.meaning_at in
        let number : 0 + i ≡ 0 + j = ap (λ o. first_of o) means in
        omega (arith, number)
      where
        first_of : Option Operand → ℕ
        first_of None = 0
        first_of (Some o) = o.attr.0

pub named_by_phrase : (m : Lists) → AllDiffer (operand_phrases m) → (a : AttrId) → HasAttribute m a → attribute_named m (phrase_of_attribute (attribute_at m a)) ≡ Some a
named_by_phrase m d a has =
    let t : List ℕ = phrase_of_attribute (attribute_at m a) in
    ap (option_map (λ n. let id : AttrId = record { 0 = n } in id)) (positioned t (attribute_phrases m) a.0 (phrase_placed m.attributes a.0 has) (λ j below at.
    let lj = placed_within m.attributes j t at in
    let same : Some (phrase_of_attribute (slice_get m.attributes j)) ≡ Some t = sym (phrase_placed m.attributes j lj) ∙ at in
    let one = one_attribute m d j a.0 lj has (let e : phrase_of_attribute (slice_get m.attributes j) ≡ t = cc same in e) in
    absurd (omega (arith, below, one))))

-- ---- the words of a phrase at the front

past_pieces : (ps : List Piece) → AreWordPieces ps → (rest : List Lexeme) → past_words (all_told (behind ps) ++ rest) ≡ past_words rest
past_pieces [] h rest = refl
past_pieces (p ∷ ps) h rest = ap (λ b. if b then past_words (all_told (behind ps) ++ rest) else (told (token true p) ∷ (all_told (behind ps) ++ rest))) (wordlike_piece p h.0) ∙ past_pieces ps h.1 rest

front_pieces : (ps : List Piece) → AreWordPieces ps → (rest : List Lexeme) → front_words (all_told (behind ps) ++ rest) ≡ all_told (behind ps) ++ front_words rest
front_pieces [] h rest = refl
front_pieces (p ∷ ps) h rest = ap (λ b. if b then told (token true p) ∷ front_words (all_told (behind ps) ++ rest) else []) (wordlike_piece p h.0) ∙ ap (λ ls. told (token true p) ∷ ls) (front_pieces ps h.1 rest)

module _ (m : Lists) (a : AttrId) (has : HasAttribute m a) (differ : AllDiffer (operand_phrases m)) (l : IsLed (phrase_of_attribute (attribute_at m a))) where
  abbrev t : List ℕ
  t = phrase_of_attribute (attribute_at m a)

  abbrev words : List Lexeme
  words = all_told (token false l.first ∷ behind l.later)

  words_are : all_told (phrase_words m a) ≡ words
  words_are = ap all_told (phrase_split t l false)

  first_is_word : is_word (class_of l.first.kind l.first.text) ≡ true
  first_is_word = plain_is_word (class_of l.first.kind l.first.text) (plain_first l.first l.is_word l.unreserved)

  past_phrase : (rest : List Lexeme) → past_words (words ++ rest) ≡ past_words rest
  past_phrase rest = ap (λ b. if b then past_words (all_told (behind l.later) ++ rest) else words ++ rest) (wordlike_piece l.first l.is_first) ∙ past_pieces l.later l.are_later rest

  front_phrase : (rest : List Lexeme) → front_words (words ++ rest) ≡ words ++ front_words rest
  front_phrase rest = ap (λ b. if b then told (token false l.first) ∷ front_words (all_told (behind l.later) ++ rest) else []) (wordlike_piece l.first l.is_first) ∙ ap (λ ls. told (token false l.first) ∷ ls) (front_pieces l.later l.are_later rest)

  words_conclude : concluded m words ≡ Some a
  words_conclude = ap (attribute_named m) (joined_texts false l.first l.later ∙ sym l.text_is) ∙ named_by_phrase m differ a has

  abbrev if_word : Lexeme
  if_word = told (spaced (word (codes "if")))

  -- the phrase, and `if`
  pub opens_if : opening m (all_told (ended (phrase_words m a) (codes "if"))) ≡ opens.If (Some a)
  opens_if =
      let end = word_ending (phrase_words m a) (codes "if") refl in
      let all : all_told (ended (phrase_words m a) (codes "if")) ≡ words ++ if_word ∷ [] = told_append (phrase_words m a) (spaced (word (codes "if")) ∷ []) ∙ ap (λ ts. ts ++ if_word ∷ []) words_are in
      let ends : ending_of (words ++ if_word ∷ []) ≡ ending.If = ap ending_of (sym all) ∙ end.ending_is in
      let before : body (words ++ if_word ∷ []) ≡ words = ap body (sym all) ∙ end.body_is ∙ words_are in
      ap (opening m) all
      ∙ ap (λ b. if b then opening_at m (words ++ if_word ∷ []) (past_words (words ++ if_word ∷ [])) else opens.Nothing) first_is_word
      ∙ ap (opening_at m (words ++ if_word ∷ [])) (past_phrase (if_word ∷ []))
      ∙ ap₂ (by_words m) ends before
      ∙ ap (λ b. if b then opens.If (concluded m words) else opens.Nothing) first_is_word
      ∙ ap (λ o. opens.If o) words_conclude

  abbrev equals : Lexeme
  equals = told (spaced (symbol (codes "=")))

  equated_told : all_told (equated (phrase_words m a)) ≡ words ++ equals ∷ []
  equated_told = told_append (phrase_words m a) (spaced (symbol (codes "=")) ∷ []) ∙ ap (λ ts. ts ++ equals ∷ []) words_are

  opens_equals : (rest : List Lexeme) → opening m (words ++ equals ∷ rest) ≡ by_equals (Some a) equals.class rest
  opens_equals rest =
      ap (λ b. if b then opening_at m (words ++ equals ∷ rest) (past_words (words ++ equals ∷ rest)) else opens.Nothing) first_is_word
      ∙ ap (opening_at m (words ++ equals ∷ rest)) (past_phrase (equals ∷ rest))
      ∙ ap (λ o. by_equals o equals.class rest) (ap (concluded m) (front_phrase (equals ∷ rest) ∙ append-nil words) ∙ words_conclude)

  pub opens_cases : opening m (all_told (equated (phrase_words m a))) ≡ opens.Cases (Some a)
  opens_cases = ap (opening m) equated_told ∙ opens_equals []

  pub opens_is : (u : Written) (ws : List Written) → opening m (all_told (equated (phrase_words m a) ++ u ∷ ws)) ≡ opens.Is (Some a)
  opens_is u ws =
      ap (opening m) (told_append (equated (phrase_words m a)) (u ∷ ws) ∙ ap (λ ts. ts ++ all_told (u ∷ ws)) equated_told ∙ append_assoc words (equals ∷ []) (all_told (u ∷ ws)))
      ∙ opens_equals (all_told (u ∷ ws))

  pub equation_past : (ws : List Written) → past_equals (all_told (equated (phrase_words m a) ++ ws)) ≡ all_told ws
  equation_past ws =
      ap past_equals (told_append (equated (phrase_words m a)) ws ∙ ap (λ ts. ts ++ all_told ws) equated_told ∙ append_assoc words (equals ∷ []) (all_told ws))
      ∙ ap past_one (past_phrase (equals ∷ all_told ws))
