-- Items have phrases that are phrases and texts, and sentences that are made of Words and Numbers.
use Rattle.std.proofs.Common.{◌≡◌, ◌+◌, ℕ, Bool, true, false, not, cond, ◌&&◌, List, [], ◌∷◌, ◌++◌, length, take, drop, map, position, Option, Some, None, All, refl, subst, arith}
use Rattle.std.specs.Prelude.{◌==◌, codes, if◌then◌else◌}
use Rattle.std.specs.List.{list_all}
use Rattle.std.specs.Option.{option_and_then}
use Rattle.std.specs.Str.{IsUtf8}
use Rattle.std.proofs.lemmas.Bool.{and_parts, and_from, not-true}
use Rattle.std.proofs.lemmas.Option.{cond_some}
use Rattle.std.proofs.lemmas.List.{length-map}
use Rattle.std.proofs.lemmas.List.Elements.{All-head, All-tail, All-take, All-drop, All-append}
use Rattle.std.proofs.lemmas.Str.{IsUtf8-nil, IsUtf8-append, IsUtf8-between}
use Rattle.opa_io.proofs.Options.{bound_parts, mapped_parts}
use Rattle.opa_model.specs.declared.things.Verb.{Verb}
use Rattle.opa_words.specs.declared.kinds.Token.{Token}
use Rattle.opa_words.specs.declared.kinds.TokenKind.{TokenKind}
use Rattle.opa_words.specs.declared.kinds.TokenKind.TheVariants as kind
use Rattle.opa_words.specs.Places.{IsWithin, IsOfKind, token_text}
use Rattle.opa_words.specs.Reserved.{are_phrase, begins_well, ends_badly, is_phrase_kind, is_word_kind, joined, phrase_text}
use Rattle.opa_words.specs.Pieces.{piece, pieces}
use Rattle.opa_words.proofs.Ascii.{ascii_utf8}
use Rattle.opa_decl.specs.declared.cut.CutBlock.{CutBlock}
use Rattle.opa_decl.specs.declared.cut.CutLine.{CutLine}
use Rattle.opa_decl.specs.declared.items.Bounds.{Bounds}
use Rattle.opa_decl.specs.declared.items.Item.{Item}
use Rattle.opa_decl.specs.declared.items.Item.TheVariants as item
use Rattle.opa_decl.specs.declared.items.Name.{Name}
use Rattle.opa_decl.specs.declared.items.Place.{Place}
use Rattle.opa_decl.specs.declared.items.Reach.{Reach}
use Rattle.opa_decl.specs.declared.items.RelationLine.{RelationLine}
use Rattle.opa_decl.specs.declared.items.Reach.TheVariants as reach
use Rattle.opa_decl.specs.declared.items.Said.{Said}
use Rattle.opa_decl.specs.declared.items.Sort.{Sort}
use Rattle.opa_decl.specs.declared.items.Sort.TheVariants as sort
use Rattle.opa_decl.specs.declared.limits.Limits.{Limits}
use Rattle.opa_decl.specs.Cutting.{HasTokens, HaveTokens}
use Rattle.opa_decl.specs.Declarations.{items_of}
use Rattle.opa_decl.specs.Limits.{limits, no_limits, bounds_of}
use Rattle.opa_decl.specs.Lines.{name, verb_line, words_or_none, said_by, bool_line, number_line, target, reference_line, every_line, parent, inside_line}
use Rattle.opa_verbs.specs.Phrasing.{IsPhrase}
use Rattle.opa_decl.specs.Pieces.{has_text, split_at, phrase, words, are_words}
use Rattle.opa_decl.specs.Steps.{◌>>=◌}
use Rattle.opa_decl.specs.Spelling.{place_in, inner, behind_first, behind_head, member_in, headed_verb, inside_in}
use Rattle.opa_decl.proofs.MemberLines.{HoldOfLines, in_member, member_tokens}
use Rattle.opa_decl.proofs.PhraseTexts.{AreOf, IsSaid, IsSaidFully, spoken_tokens, phrase_joined, phrase_again}
use Rattle.opa_decl.proofs.SpelledItems.{carried, given, given_if, same_value, Hold, in_all_items}

-- what a bool says
abbrev pub SaysWell : Sort → Type 0
SaysWell (sort.Bool said) = IsSaidFully said.subject × IsSaid said.rest
SaysWell (sort.Number b) = Unit {0}
SaysWell (sort.Currency b) = Unit {0}
SaysWell sort.Words = Unit {0}
SaysWell sort.Date = Unit {0}

-- a phrase, in UTF-8
abbrev pub IsPhraseText : List ℕ → Type 0
IsPhraseText text = IsPhrase text × IsUtf8 text

abbrev pub IsPhrased : Item → Type 0
IsPhrased (item.Verb v) = IsSaidFully v.verb.negative
IsPhrased (item.Entity e) = IsPhraseText e.inside.text
IsPhrased (item.Attribute a) = IsPhraseText a.phrase.text × SaysWell a.sort
IsPhrased (item.Relation r) = IsPhraseText r.phrase.text
IsPhrased (item.Goal g) = Unit {0}
IsPhrased (item.Screen s) = Unit {0}
IsPhrased (item.File f) = Unit {0}

-- ---- tokens of a line

module _ (bytes : List ℕ) where
  front_of : (n : ℕ) (ts : List Token) → AreOf bytes ts → AreOf bytes (take n ts)
  front_of n ts are = record { utf8 = are.utf8; within = All-take (IsWithin bytes) n ts are.within; kinds = All-take (IsOfKind bytes) n ts are.kinds }

  back_of : (n : ℕ) (ts : List Token) → AreOf bytes ts → AreOf bytes (drop n ts)
  back_of n ts are = record { utf8 = are.utf8; within = All-drop (IsWithin bytes) n ts are.within; kinds = All-drop (IsOfKind bytes) n ts are.kinds }

  rest_of : (t : Token) (ts : List Token) → AreOf bytes (t ∷ ts) → AreOf bytes ts
  rest_of t ts are = record { utf8 = are.utf8; within = All-tail (IsWithin bytes) t ts are.within; kinds = All-tail (IsOfKind bytes) t ts are.kinds }

  both_of : (ts us : List Token) → AreOf bytes ts → AreOf bytes us → AreOf bytes (ts ++ us)
  both_of ts us a b = record { utf8 = a.utf8; within = All-append (IsWithin bytes) ts us a.within b.within; kinds = All-append (IsOfKind bytes) ts us a.kinds b.kinds }

  abbrev BothAreOf : List Token × List Token → Type 0
  BothAreOf x = AreOf bytes x.0 × AreOf bytes x.1

  split_of : (mark : List ℕ) (ts : List Token) (x : List Token × List Token) → AreOf bytes ts → split_at bytes mark ts ≡ Some x → BothAreOf x
  unfolding split_at
  split_of mark ts x are h =
      let i = mapped_parts (λ (i : ℕ). let y : List Token × List Token = (take i ts, drop (i + 1) ts) in y) (position (has_text bytes mark) ts) x h in
      subst BothAreOf i.2 (front_of i.0 ts are, back_of (i.0 + 1) ts are)

  -- ---- phrases and words

  token_is_text : (t : Token) (ts : List Token) → AreOf bytes (t ∷ ts) → IsUtf8 (token_text bytes t)
  token_is_text t ts are = let w = All-head (IsWithin bytes) t ts are.within in IsUtf8-between bytes t.start t.end are.utf8 w.order w.from w.to

  joined_text : (ts : List Token) → AreOf bytes ts → IsUtf8 (joined (map (token_text bytes) ts))
  joined_text [] are = IsUtf8-nil
  joined_text (t ∷ []) are = token_is_text t [] are
  joined_text (t ∷ u ∷ ts) are =
      let more = joined_text (u ∷ ts) (rest_of t (u ∷ ts) are) in
      IsUtf8-append (token_text bytes t) (32 ∷ joined (map (token_text bytes) (u ∷ ts))) (token_is_text t (u ∷ ts) are) (IsUtf8-append (32 ∷ []) (joined (map (token_text bytes) (u ∷ ts))) (ascii_utf8 (32 ∷ []) refl) more)

  phrased : (ts : List Token) → AreOf bytes ts → are_phrase bytes ts ≡ true → IsPhraseText (phrase_text bytes ts)
  phrased ts are h = (phrase_again bytes ts are h, joined_text ts are)

  phrase_of : (ts : List Token) (text : List ℕ) → AreOf bytes ts → phrase bytes ts ≡ Some text → IsPhraseText text
  unfolding phrase
  phrase_of ts text are h = let p = cond_some (are_phrase bytes ts) (phrase_text bytes ts) text h in subst IsPhraseText p.1 (phrased ts are p.0)

  said_of : (ts : List Token) → AreOf bytes ts → list_all (λ t. is_phrase_kind t.kind) ts ≡ true → IsSaid (phrase_text bytes ts)
  said_of ts are h = record { pieces = pieces bytes ts; spoken = spoken_tokens bytes ts are h; text_is = phrase_joined bytes ts }

  fully_of : (ts : List Token) → AreOf bytes ts → list_all (λ t. is_phrase_kind t.kind) ts ≡ true → (length ts == 0) ≡ false → IsSaidFully (phrase_text bytes ts)
  unfolding said_of
  fully_of ts are h some = record { said = said_of ts are h; some = grind (arith, length-map ts (piece bytes), some) }

  word_kind : (k : TokenKind) → is_word_kind k ≡ true → is_phrase_kind k ≡ true
  word_kind kind.Word h = refl
  word_kind kind.Number h = refl
  word_kind kind.Date h = absurd (cc h)
  word_kind kind.Text h = absurd (cc h)
  word_kind kind.Symbol h = absurd (cc h)

  word_kinds : (ts : List Token) → list_all (λ t. is_word_kind t.kind) ts ≡ true → list_all (λ t. is_phrase_kind t.kind) ts ≡ true
  word_kinds [] h = refl
  word_kinds (t ∷ ts) h =
      let p = and_parts (is_word_kind t.kind) (list_all (λ (u : Token). is_word_kind u.kind) ts) h in
      and_from (is_phrase_kind t.kind) (list_all (λ (u : Token). is_phrase_kind u.kind) ts) (word_kind t.kind p.0) (word_kinds ts p.1)

  words_of : (ts : List Token) (text : List ℕ) → AreOf bytes ts → words bytes ts ≡ Some text → IsSaidFully text
  unfolding words
  words_of ts text are h =
      let w = cond_some (are_words ts) (phrase_text bytes ts) text h in
      let p = and_parts (not (length ts == 0)) (list_all (λ (t : Token). is_word_kind t.kind) ts) w.0 in
      subst IsSaidFully w.1 (fully_of ts are (word_kinds ts p.1) (not-true (length ts == 0) p.0))

  kinds_parts : (ts us : List Token) → list_all (λ t. is_phrase_kind t.kind) (ts ++ us) ≡ true → (list_all (λ t. is_phrase_kind t.kind) ts ≡ true) × (list_all (λ t. is_phrase_kind t.kind) us ≡ true)
  kinds_parts [] us h = (refl, h)
  kinds_parts (t ∷ ts) us h =
      let p = and_parts (is_phrase_kind t.kind) (list_all (λ (u : Token). is_phrase_kind u.kind) (ts ++ us)) h in
      let q = kinds_parts ts us p.1 in (and_from (is_phrase_kind t.kind) (list_all (λ (u : Token). is_phrase_kind u.kind) ts) p.0 q.0, q.1)

  phrase_kinds : (ts : List Token) (text : List ℕ) → phrase bytes ts ≡ Some text → list_all (λ t. is_phrase_kind t.kind) ts ≡ true
  unfolding phrase
  phrase_kinds ts text h =
      let p = cond_some (are_phrase bytes ts) (phrase_text bytes ts) text h in
      let most = and_parts (begins_well bytes ts && list_all (λ (t : Token). is_phrase_kind t.kind) ts) (not (ends_badly bytes ts)) p.0 in
      (and_parts (begins_well bytes ts) (list_all (λ (t : Token). is_phrase_kind t.kind) ts) most.0).1

  -- ---- lines

  abbrev IsBoolSaid : List ℕ × Said → Type 0
  IsBoolSaid x = IsPhraseText x.0 × (IsSaidFully x.1.subject × IsSaid x.1.rest)

  said_if : (subject rest : List Token) (whole pos : List ℕ) → AreOf bytes subject → AreOf bytes rest → IsPhraseText whole → list_all (λ t. is_phrase_kind t.kind) subject ≡ true → list_all (λ t. is_phrase_kind t.kind) rest ≡ true
      → (b : Bool) → (length subject == 0) ≡ b → (x : List ℕ × Said) → cond b None (Some (whole, record { subject = phrase_text bytes subject; positive = pos; rest = phrase_text bytes rest })) ≡ Some x → IsBoolSaid x
  said_if subject rest whole pos s r is a b true e x k = absurd (cc k)
  said_if subject rest whole pos s r is a b false e x k = subst IsBoolSaid (same_value k) (is, (fully_of subject s a e, said_of rest r b))

  said_by_of : (subject positive rest : List Token) → AreOf bytes subject → AreOf bytes positive → AreOf bytes rest → (x : List ℕ × Said) → said_by bytes subject positive rest ≡ Some x → IsBoolSaid x
  said_by_of subject positive rest s p r =
      let all = subject ++ (positive ++ rest) in
      let make : List ℕ → List ℕ → Option (List ℕ × Said) = λ whole pos. if length subject == 0 then None else Some (whole, record { subject = phrase_text bytes subject; positive = pos; rest = phrase_text bytes rest }) in
      carried IsBoolSaid (λ (whole : List ℕ). option_and_then (make whole) (words bytes positive)) (phrase bytes all) (λ whole is.
      carried IsBoolSaid (make whole) (words bytes positive) (λ pos _.
      let kinds = kinds_parts subject (positive ++ rest) (phrase_kinds all whole is) in
      said_if subject rest whole pos s r (phrase_of all whole (both_of subject (positive ++ rest) s (both_of positive rest p r)) is) kinds.0 (kinds_parts positive rest kinds.1).1 (length subject == 0) refl))

  bool_of : (ts : List Token) → AreOf bytes ts → (x : List ℕ × Said) → bool_line bytes ts ≡ Some x → IsBoolSaid x
  unfolding bool_line
  bool_of ts are =
      carried IsBoolSaid (λ (subject : List Token × List Token). option_and_then (λ (positive : List Token × List Token). said_by bytes subject.0 positive.0 positive.1) (split_at bytes (codes "]") subject.1)) (split_at bytes (codes "[") ts) (λ subject first.
      carried IsBoolSaid (λ (positive : List Token × List Token). said_by bytes subject.0 positive.0 positive.1) (split_at bytes (codes "]") subject.1) (λ positive second.
      let s = split_of (codes "[") ts subject are first in
      let p = split_of (codes "]") subject.1 positive s.1 second in
      said_by_of subject.0 positive.0 positive.1 s.0 p.0 p.1))

  abbrev IsNumberPhrased : List ℕ × Bounds → Type 0
  IsNumberPhrased x = IsPhraseText x.0

  abbrev with_bounds : ℕ → List Token → List ℕ → Option (List ℕ × Bounds)
  with_bounds most ts text = option_and_then (λ (found : Limits). Some (text, bounds_of most found)) (limits bytes 3 most no_limits ts)

  bounded_of : (most : ℕ) (ts : List Token) → AreOf bytes ts → (x : List ℕ × Bounds) → option_and_then (λ (parts : List Token × List Token). option_and_then (with_bounds most parts.1) (phrase bytes parts.0)) (split_at bytes (codes ":") ts) ≡ Some x → IsNumberPhrased x
  bounded_of most ts are =
      carried IsNumberPhrased (λ (parts : List Token × List Token). option_and_then (with_bounds most parts.1) (phrase bytes parts.0)) (split_at bytes (codes ":") ts) (λ parts split.
      carried IsNumberPhrased (with_bounds most parts.1) (phrase bytes parts.0) (λ text is.
      carried IsNumberPhrased (λ (found : Limits). Some (text, bounds_of most found)) (limits bytes 3 most no_limits parts.1) (λ found _ x.
      given IsNumberPhrased (text, bounds_of most found) x (phrase_of parts.0 text (split_of (codes ":") ts parts are split).0 is))))

  number_of : (most : ℕ) (ts : List Token) → AreOf bytes ts → (x : List ℕ × Bounds) → number_line bytes most ts ≡ Some x → IsNumberPhrased x
  unfolding number_line
  number_of most ts are x = go (are_phrase bytes ts) refl
    where
      go : (b : Bool) → are_phrase bytes ts ≡ b → cond b (Some (phrase_text bytes ts, bounds_of most no_limits)) (option_and_then (λ (parts : List Token × List Token). option_and_then (with_bounds most parts.1) (phrase bytes parts.0)) (split_at bytes (codes ":") ts)) ≡ Some x → IsNumberPhrased x
      go true e = given IsNumberPhrased (phrase_text bytes ts, bounds_of most no_limits) x (phrased ts are e)
      go false e = bounded_of most ts are x

  abbrev IsRelated : RelationLine → Type 0
  IsRelated r = IsPhraseText r.phrase.text

  reference_of : (at : Place) (of_global : Bool) (ts : List Token) → AreOf bytes ts → (x : RelationLine) → reference_line bytes at of_global ts ≡ Some x → IsRelated x
  unfolding reference_line
  reference_of at of_global ts are =
      let make : List ℕ → Reach × List ℕ → RelationLine = λ text entity. record { of_global = of_global; phrase = name at text; target = name at entity.1; reach = entity.0 } in
      carried IsRelated (λ (parts : List Token × List Token). option_and_then (λ (text : List ℕ). option_and_then (λ (entity : Reach × List ℕ). Some (make text entity)) (target bytes parts.1)) (phrase bytes parts.0)) (split_at bytes (codes ":") ts) (λ parts split.
      carried IsRelated (λ (text : List ℕ). option_and_then (λ (entity : Reach × List ℕ). Some (make text entity)) (target bytes parts.1)) (phrase bytes parts.0) (λ text is.
      carried IsRelated (λ (entity : Reach × List ℕ). Some (make text entity)) (target bytes parts.1) (λ entity _ x.
      given IsRelated (make text entity) x (phrase_of parts.0 text (split_of (codes ":") ts parts are split).0 is))))

  every_of : (at : Place) (of_global : Bool) (ts : List Token) → AreOf bytes ts → (x : RelationLine) → every_line bytes at of_global ts ≡ Some x → IsRelated x
  unfolding every_line
  every_of at of_global ts are =
      let make : List ℕ → List ℕ → RelationLine = λ text entity. record { of_global = of_global; phrase = name at text; target = name at entity; reach = reach.Every } in
      carried IsRelated (λ (parts : List Token × List Token). option_and_then (λ (text : List ℕ). option_and_then (λ (entity : List ℕ). if of_global then Some (make text entity) else None) (phrase bytes parts.1)) (phrase bytes parts.0)) (split_at bytes (codes ":") ts) (λ parts split.
      carried IsRelated (λ (text : List ℕ). option_and_then (λ (entity : List ℕ). if of_global then Some (make text entity) else None) (phrase bytes parts.1)) (phrase bytes parts.0) (λ text is.
      carried IsRelated (λ (entity : List ℕ). if of_global then Some (make text entity) else None) (phrase bytes parts.1) (λ entity _ x.
      given_if IsRelated of_global (make text entity) x (phrase_of parts.0 text (split_of (codes ":") ts parts are split).0 is))))

  abbrev IsInside : Option Name × Name → Type 0
  IsInside x = IsPhraseText x.1.text

  inside_of : (at : Place) (ts : List Token) → AreOf bytes ts → (x : Option Name × Name) → inside_line bytes at ts ≡ Some x → IsInside x
  unfolding inside_line
  inside_of at [] are x h = absurd (cc h)
  inside_of at (t ∷ ts) are x h =
      let make : Option Name → List ℕ → Option (Option Name × Name) = λ above text. if has_text bytes (codes "in") t then Some (above, name at text) else None in
      carried IsInside (λ (parts : List Token × List Token). option_and_then (λ (above : Option Name). option_and_then (make above) (phrase bytes parts.1)) (parent bytes at parts.0)) (split_at bytes (codes ":") ts) (λ parts split.
      carried IsInside (λ (above : Option Name). option_and_then (make above) (phrase bytes parts.1)) (parent bytes at parts.0) (λ above _.
      carried IsInside (make above) (phrase bytes parts.1) (λ text is y.
      given_if IsInside (has_text bytes (codes "in") t) (above, name at text) y (phrase_of parts.1 text (split_of (codes ":") ts parts (rest_of t ts are) split).1 is)))) x h

  abbrev IsDenying : Verb → Type 0
  IsDenying v = IsSaidFully v.negative

  -- the steps of a verb's line, from the last to the first
  abbrev verb_with : List Token → List Token → List Token → List Token → Option Verb
  verb_with positive negative ask rest = do
    pos ← words bytes positive
    neg ← words bytes negative
    asked ← words bytes ask
    more ← words_or_none bytes rest
    Some (record { positive = pos; negative = neg; ask = asked; rest = more })

  denying : (positive negative ask rest : List Token) → AreOf bytes negative → (v : Verb) → verb_with positive negative ask rest ≡ Some v → IsDenying v
  denying positive negative ask rest are =
      let make : List ℕ → List ℕ → List ℕ → List ℕ → Option Verb = λ pos neg asked more. Some (record { positive = pos; negative = neg; ask = asked; rest = more }) in
      carried IsDenying (λ (pos : List ℕ). option_and_then (λ (neg : List ℕ). option_and_then (λ (asked : List ℕ). option_and_then (make pos neg asked) (words_or_none bytes rest)) (words bytes ask)) (words bytes negative)) (words bytes positive) (λ pos _.
      carried IsDenying (λ (neg : List ℕ). option_and_then (λ (asked : List ℕ). option_and_then (make pos neg asked) (words_or_none bytes rest)) (words bytes ask)) (words bytes negative) (λ neg is.
      carried IsDenying (λ (asked : List ℕ). option_and_then (make pos neg asked) (words_or_none bytes rest)) (words bytes ask) (λ asked _.
      carried IsDenying (make pos neg asked) (words_or_none bytes rest) (λ more _ v.
      given IsDenying (record { positive = pos; negative = neg; ask = asked; rest = more }) v (words_of negative neg are is)))))

  verb_of : (ts : List Token) → AreOf bytes ts → (v : Verb) → verb_line bytes ts ≡ Some v → IsDenying v
  unfolding verb_line
  verb_of ts are =
      carried IsDenying (λ (p : List Token × List Token). option_and_then (λ (n : List Token × List Token). option_and_then (λ (a : List Token × List Token). verb_with p.0 n.0 a.0 a.1) (split_at bytes (codes "/") n.1)) (split_at bytes (codes "/") p.1)) (split_at bytes (codes "/") ts) (λ p first.
      carried IsDenying (λ (n : List Token × List Token). option_and_then (λ (a : List Token × List Token). verb_with p.0 n.0 a.0 a.1) (split_at bytes (codes "/") n.1)) (split_at bytes (codes "/") p.1) (λ n second.
      carried IsDenying (λ (a : List Token × List Token). verb_with p.0 n.0 a.0 a.1) (split_at bytes (codes "/") n.1) (λ a _.
      denying p.0 n.0 a.0 a.1 (split_of (codes "/") p.1 n (split_of (codes "/") ts p are first).1 second).0)))

  lines_phrased : (at : Place) (of_global : Bool) (ts : List Token) → AreOf bytes ts → HoldOfLines IsPhrased bytes at of_global ts
  lines_phrased at of_global ts are = record {
    of_bool = bool_of ts are;
    of_number = λ x h. (number_of 4 ts are x h, tt);
    of_currency = λ x h. (number_of 2 ts are x h, tt);
    of_words = λ x h. (phrase_of ts x are h, tt);
    of_date = λ x h. (phrase_of ts x are h, tt);
    of_reference = reference_of at of_global ts are;
    of_every = every_of at of_global ts are;
  }

-- ---- blocks

abbrev IsCutLine : CutLine → Type 0
IsCutLine line = HasTokens line.text line.tokens

has_tokens : (text : List ℕ) (o : Option (List Token)) (ts : List Token) → HasTokens text o → o ≡ Some ts → AreOf text ts
has_tokens text None ts h e = absurd (cc e)
has_tokens text (Some us) ts h e = subst (λ (vs : List Token). AreOf text vs) (same_value e) (record { utf8 = h.utf8; within = h.within; kinds = h.kinds })

inner_tokens : (line : CutLine) (ts : List Token) → IsCutLine line → inner line ≡ Some ts → AreOf line.text ts
inner_tokens line ts h e = go (line.level == 1) e
  where
    go : (b : Bool) → cond b line.tokens None ≡ Some ts → AreOf line.text ts
    go true k = has_tokens line.text line.tokens ts h k
    go false k = absurd (cc k)

behind_tokens : (line : CutLine) (ts : List Token) → IsCutLine line → behind_head line ≡ Some ts → AreOf line.text ts
behind_tokens line ts h e = let us = bound_parts behind_first line.tokens ts e in go us.0 (has_tokens line.text line.tokens us.0 h us.1) us.2
  where
    go : (us : List Token) → AreOf line.text us → behind_first us ≡ Some ts → AreOf line.text ts
    go [] are k = absurd (cc k)
    go (u ∷ us) are k = subst (λ (vs : List Token). AreOf line.text vs) (same_value k) (rest_of line.text u us are)

member_phrased : (file : ℕ) (of_global : Bool) (line : CutLine) (i : Item) → IsCutLine line → member_in file of_global line ≡ Some i → IsPhrased i
member_phrased file of_global line i cut h =
    let ts = member_tokens file of_global line i h in
    let are = inner_tokens line ts.0 cut ts.1 in
    in_member IsPhrased line.text (place_in file line) of_global ts.0 i (λ t more is. lines_phrased line.text (place_in file line) of_global more (rest_of line.text t more (subst (λ (us : List Token). AreOf line.text us) is are))) ts.2

verb_phrased : (line : CutLine) (v : Verb) → IsCutLine line → headed_verb line ≡ Some v → IsSaidFully v.negative
unfolding headed_verb
verb_phrased line v cut h = let ts = bound_parts (verb_line line.text) (behind_head line) v h in verb_of line.text ts.0 (behind_tokens line ts.0 cut ts.1) v ts.2

inside_phrased : (file : ℕ) (line : CutLine) (x : Option Name × Name) → IsCutLine line → inside_in file line ≡ Some x → IsPhraseText x.1.text
unfolding inside_in
inside_phrased file line x cut h = let ts = bound_parts (inside_line line.text (place_in file line)) (inner line) x h in inside_of line.text (place_in file line) ts.0 (inner_tokens line ts.0 cut ts.1) x ts.2

pub items_phrased : (blocks : List CutBlock) → All HaveTokens blocks → All IsPhrased (items_of blocks)
items_phrased blocks cut =
    let holds : Hold IsPhrased IsCutLine = record {
      of_member = member_phrased;
      of_verb = λ file line v is h. verb_phrased line v is h;
      of_entity = λ file first second phrase above one two h k. inside_phrased file second above two k;
      of_goal = λ goal. tt;
      of_screen = λ screen. tt;
      of_file = λ named. tt;
    } in
    in_all_items IsPhrased IsCutLine holds blocks cut
