-- The phrases of a model that rules can read are read as what they are declared for.
use Rattle.std.proofs.Common.{◌≡◌, ◌≢◌, ◌<◌, ◌≤◌, ◌+◌, ℕ, zero, suc, List, [], ◌∷◌, ◌++◌, length, drop, map, flat_map, Bool, true, false, cond, All, Option, Some, None, slice_get, refl, sym, ap, subst, ◌∙◌, arith, length-append, get_or}
use Rattle.std.specs.Prelude.{◌||◌, codes, if◌then◌else◌}
use Rattle.std.specs.Char.{is_ascii_digit}
use Rattle.std.specs.Str.{IsUtf8, bytes_eq}
use Rattle.std.specs.List.{list_any}
use Rattle.std.proofs.lemmas.Bool.{and_parts}
use Rattle.std.proofs.lemmas.List.Elements.{All-nil, All-head, All-tail, All-cons, All-append}
use Rattle.opa_io.proofs.Places.{All_at}
use Rattle.opa_model.specs.declared.ids.AttrId.{AttrId}
use Rattle.opa_model.specs.declared.ids.RelId.{RelId}
use Rattle.opa_model.specs.declared.lists.Lists.{Lists}
use Rattle.opa_model.specs.declared.things.Attribute.{Attribute}
use Rattle.opa_model.specs.declared.things.Relation.{Relation as Declared}
use Rattle.opa_model.specs.Lookups.{attribute_at, relation_at, relation_phrases}
use Rattle.opa_model.specs.Models.{HasAttribute, HasRelation}
use Rattle.opa_tree.specs.declared.expr.Expr.TheVariants as expr
use Rattle.opa_tree.specs.declared.rules.Inferred.{Inferred}
use Rattle.opa_words.specs.declared.kinds.TokenKind.{TokenKind}
use Rattle.opa_words.specs.declared.kinds.TokenKind.TheVariants as kind
use Rattle.opa_words.specs.Phrases.{first_position}
use Rattle.opa_words.specs.Reserved.{is_word_kind, is_reserved, reserved}
use Rattle.opa_words.specs.Pieces.{Piece, word, number}
use Rattle.opa_sentence.specs.declared.class.Class.{Class}
use Rattle.opa_sentence.specs.declared.class.Class.TheVariants as class
use Rattle.opa_sentence.specs.declared.functions.Function.{Function}
use Rattle.opa_sentence.specs.declared.names.Names.{Names}
use Rattle.opa_sentence.specs.declared.names.Operand.{Operand}
use Rattle.opa_sentence.specs.declared.names.Relation.TheVariants as relation
use Rattle.opa_sentence.specs.Functions.{function_named}
use Rattle.opa_sentence.specs.Lexemes.{Lexeme, class_of, word_class, function_class}
use Rattle.opa_sentence.specs.Measures.{unbounded}
use Rattle.opa_sentence.specs.Phrases.{front_text, longest, is_word, is_wordlike}
use Rattle.opa_sentence.specs.Readings as says
use Rattle.opa_sentence.specs.Table.{relation_at as relation_in, relation_found, past_found, related_or_none}
use Rattle.opa_sentence.specs.Grammar.{Spells, FACTOR, BeginsPhrase, Begins}
use Rattle.opa_sentence.specs.Grammar as g
use Rattle.opa_parse.specs.Naming.{operand, meanings_from, declared_from, inferred_from, inferred_phrases, names_in}
use Rattle.opa_verbs.specs.Phrasing.{denials, texts_of, operand_phrases}
use Rattle.opa_parse.specs.Phrasing.{IsReadable}
use Rattle.opa_verbs.specs.Phrasing.{IsPhrase, IsWorded}
use Rattle.opa_wording.specs.Told.{told, all_told, ends, may_follow, is_sign, SpellsTree, AreTexts, OthersAreTexts}
use Rattle.opa_wording.specs.Wordings.{token, phrase, phrase_word, phrase_of_attribute, phrase_of_relation}
use Rattle.opa_wording.specs.Laws.{ReadableIsRead}
use Rattle.opa_wording.proofs.PhrasePieces.{IsWordPiece, AreWordPieces, behind, IsLed, phrase_led, phrase_split}
use Rattle.opa_wording.proofs.ReadableModels.{attribute_held, relation_held}
use Rattle.opa_wording.proofs.Foremost.{AllDiffer, place_of, foremost_is_longest}
use Rattle.opa_wording.proofs.WordsFound.{IsStrung, worded_strung, phrase_strung, exact_front, no_longer_front}

-- ---- what stands in joined lists

pub in_front : {X : Type 0} (xs ys : List X) (i : ℕ) (x : X) → slice_get xs i ≡ Some x → slice_get (xs ++ ys) i ≡ Some x
in_front [] ys i x e = absurd (cc e)
in_front (y ∷ xs) ys zero x e = e
in_front (y ∷ xs) ys (suc i) x e = in_front xs ys i x e

past : {X : Type 0} (xs ys : List X) (i : ℕ) → slice_get (xs ++ ys) (length xs + i) ≡ slice_get ys i
past [] ys i = ap (slice_get ys) (let e : 0 + i ≡ i = omega arith in e)
past (x ∷ xs) ys i = ap (slice_get (x ∷ (xs ++ ys))) (let e : suc (length xs) + i ≡ suc (length xs + i) = omega arith in e) ∙ past xs ys i

-- the first of joined lists differ, and so do the second
pub first_differ : (xs ys : List (List ℕ)) → AllDiffer (xs ++ ys) → AllDiffer xs
first_differ [] ys h i j d low high = absurd (omega (arith, high))
first_differ (x ∷ xs) ys h i j d low high = differ_first (x ∷ xs) ys h i j d low high
  where
    kept : (xs ys : List (List ℕ)) (i : ℕ) (d : List ℕ) → i < length xs → get_or (xs ++ ys) i d ≡ get_or xs i d
    kept [] ys i d l = absurd (omega (arith, l))
    kept (x ∷ xs) ys zero d l = refl
    kept (x ∷ xs) ys (suc i) d l = kept xs ys i d (omega (arith, l))

    differ_first : (xs ys : List (List ℕ)) → AllDiffer (xs ++ ys) → (i j : ℕ) (d : List ℕ) → i < j → j < length xs → get_or xs i d ≢ get_or xs j d
    differ_first xs ys h i j d low high e =
        h i j d low (omega (arith, high, length-append xs ys)) (kept xs ys i d (omega (arith, low, high)) ∙ e ∙ sym (kept xs ys j d high))

pub later_differ : (xs ys : List (List ℕ)) → AllDiffer (xs ++ ys) → AllDiffer ys
later_differ [] ys h = h
later_differ (x ∷ xs) ys h = later_differ xs ys (λ i j d low high. h (suc i) (suc j) d (omega (arith, low)) (omega (arith, high)))

first_all : {X : Type 0} (P : X → Type 0) (xs ys : List X) → All P (xs ++ ys) → All P xs
first_all P [] ys h = All-nil P
first_all P (x ∷ xs) ys h = All-cons P x xs (All-head P x (xs ++ ys) h) (first_all P xs ys (All-tail P x (xs ++ ys) h))

later_all : {X : Type 0} (P : X → Type 0) (xs ys : List X) → All P (xs ++ ys) → All P ys
later_all P [] ys h = h
later_all P (x ∷ xs) ys h = later_all P xs ys (All-tail P x (xs ++ ys) h)

-- two things hold of each
together_all : {X : Type 0} (P Q R : X → Type 0) → ((x : X) → P x → Q x → R x) → (xs : List X) → All P xs → All Q xs → All R xs
together_all P Q R f xs p q i d l = f (get_or xs i d) (p i d l) (q i d l)

-- ---- what texts stand for

-- where the phrase of an attribute stands among operands, and what it means there
pub record IsMeant (ps : List (List ℕ)) (ms : List Operand) (t : List ℕ) (o : Operand) : Type 0 where
  pub place : ℕ
  pub phrase_at : slice_get ps place ≡ Some t
  pub meaning_at : slice_get ms place ≡ Some o

meanings_length : (ds : List (List ℕ)) (n : ℕ) → length (map (λ t. operand n true) ds) ≡ length ds
meanings_length [] n = refl
meanings_length (d ∷ ds) n = ap suc (meanings_length ds n)

pub meant : (m : Lists) (n : ℕ) (xs : List Attribute) (i : ℕ) → i < length xs → IsMeant (flat_map (texts_of m) xs) (meanings_from m n xs) (phrase_of_attribute (slice_get xs i)) (operand (n + i) false)
meant m n [] i l = absurd (omega (arith, l))
meant m n (a ∷ xs) zero l = record { place = 0; phrase_at = refl; meaning_at = ap (λ k. Some (operand k false)) (let e : n ≡ n + 0 = omega arith in e) }
meant m n (a ∷ xs) (suc i) l =
    let r = meant m (n + 1) xs i (omega (arith, l)) in
    let mine : List Operand = operand n false ∷ map (λ t. operand n true) (denials m a) in
    let same : length (texts_of m a) ≡ length mine = ap suc (sym (meanings_length (denials m a) n)) in
    record {
      place = length (texts_of m a) + r.place;
      phrase_at = past (texts_of m a) (flat_map (texts_of m) xs) r.place ∙ r.phrase_at;
      meaning_at = ap (λ k. slice_get (mine ++ meanings_from m (n + 1) xs) (k + r.place)) same ∙ past mine (meanings_from m (n + 1) xs) r.place ∙ r.meaning_at ∙ ap (λ k. Some (operand k false)) (let e : n + 1 + i ≡ n + suc i = omega arith in e);
    }

related : (rs : List Declared) (n i : ℕ) → i < length rs → slice_get (declared_from n rs) i ≡ Some (let rel : RelId = record { 0 = n + i } in relation.Declared rel)
related [] n i l = absurd (omega (arith, l))
related (r ∷ rs) n zero l = ap (λ k. Some (let rel : RelId = record { 0 = k } in relation.Declared rel)) (let e : n ≡ n + 0 = omega arith in e)
related (r ∷ rs) n (suc i) l = related rs (n + 1) i (omega (arith, l)) ∙ ap (λ k. Some (let rel : RelId = record { 0 = k } in relation.Declared rel)) (let e : n + 1 + i ≡ n + suc i = omega arith in e)

relation_placed : (rs : List Declared) (i : ℕ) → i < length rs → slice_get (map (λ r. r.phrase) rs) i ≡ Some (phrase_of_relation (slice_get rs i))
relation_placed [] i l = absurd (omega (arith, l))
relation_placed (r ∷ rs) zero l = refl
relation_placed (r ∷ rs) (suc i) l = relation_placed rs i (omega (arith, l))

-- ---- all texts are strung

attribute_texts : (m : Lists) (xs : List Attribute) → All IsPhrase (map (λ a. a.phrase) xs) → All IsUtf8 (map (λ a. a.phrase) xs) → All IsWorded (flat_map (denials m) xs) → All IsUtf8 (flat_map (denials m) xs) → All IsStrung (flat_map (texts_of m) xs)
attribute_texts m [] p u d v = All-nil IsStrung
attribute_texts m (a ∷ xs) p u d v =
    let phrases : List (List ℕ) = map (λ (x : Attribute). x.phrase) xs in
    let others : List (List ℕ) = flat_map (denials m) xs in
    All-cons IsStrung a.phrase (denials m a ++ flat_map (texts_of m) xs) (phrase_strung a.phrase (All-head IsUtf8 a.phrase phrases u) (All-head IsPhrase a.phrase phrases p))
    (All-append IsStrung (denials m a) (flat_map (texts_of m) xs)
    (together_all IsUtf8 IsWorded IsStrung worded_strung (denials m a) (first_all IsUtf8 (denials m a) others v) (first_all IsWorded (denials m a) others d))
    (attribute_texts m xs (All-tail IsPhrase a.phrase phrases p) (All-tail IsUtf8 a.phrase phrases u) (later_all IsWorded (denials m a) others d) (later_all IsUtf8 (denials m a) others v)))

-- ---- the first word of a phrase

-- a word that is not reserved is a Word or a function's name
pub data IsPlain (c : Class) : Type 0 where
  plain : c ≡ class.Word → IsPlain c
  named : (f : Function) → c ≡ class.Function f → IsPlain c

no_word : (t : List ℕ) (w : List ℕ) (ws : List (List ℕ)) → list_any (λ w. bytes_eq t w) (w ∷ ws) ≡ false → (bytes_eq t w ≡ false) × (list_any (λ w. bytes_eq t w) ws ≡ false)
no_word t w ws h = go (bytes_eq t w) (list_any (λ w. bytes_eq t w) ws) h
  where
    go : (a b : Bool) → (a || b) ≡ false → (a ≡ false) × (b ≡ false)
    go true b h = absurd (cc h)
    go false b h = (refl, h)

function_plain : (o : Option Function) → IsPlain (function_class o)
function_plain None = IsPlain.plain refl
function_plain (Some f) = IsPlain.named f refl

classed : (a b c d e f : Bool) (x : Class) → a ≡ false → b ≡ false → c ≡ false → d ≡ false → e ≡ false → f ≡ false → IsPlain x
    → IsPlain (if a then class.Not else if b then class.And else if c then class.Or else if d then class.True else if e then class.False else if f then class.Uncertain else x)
classed true b c d e f x p q r s t u h = absurd (cc p)
classed false true c d e f x p q r s t u h = absurd (cc q)
classed false false true d e f x p q r s t u h = absurd (cc r)
classed false false false true e f x p q r s t u h = absurd (cc s)
classed false false false false true f x p q r s t u h = absurd (cc t)
classed false false false false false true x p q r s t u h = absurd (cc u)
classed false false false false false false x p q r s t u h = h

pub unlisted : (t : List ℕ) (ws : List (List ℕ)) (i : ℕ) (w : List ℕ) → list_any (λ w. bytes_eq t w) ws ≡ false → slice_get ws i ≡ Some w → bytes_eq t w ≡ false
unlisted t [] i w h at = absurd (cc at)
unlisted t (v ∷ ws) zero w h at = subst (λ x. bytes_eq t x ≡ false) (let e : v ≡ w = cc at in e) (no_word t v ws h).0
unlisted t (v ∷ ws) (suc i) w h at = unlisted t ws i w (no_word t v ws h).1 at

word_plain : (t : List ℕ) → is_reserved t ≡ false → IsPlain (word_class t)
word_plain t h =
    classed (bytes_eq t (codes "not")) (bytes_eq t (codes "and")) (bytes_eq t (codes "or")) (bytes_eq t (codes "true")) (bytes_eq t (codes "false")) (bytes_eq t (codes "uncertain")) (function_class (function_named t))
    (unlisted t reserved 13 (codes "not") h refl) (unlisted t reserved 17 (codes "and") h refl) (unlisted t reserved 18 (codes "or") h refl)
    (unlisted t reserved 14 (codes "true") h refl) (unlisted t reserved 15 (codes "false") h refl) (unlisted t reserved 16 (codes "uncertain") h refl) (function_plain (function_named t))

pub plain_first : (p : Piece) → is_word_kind p.kind ≡ true → is_reserved p.text ≡ false → IsPlain (class_of p.kind p.text)
plain_first p k r = go p.kind k
  where
    go : (k : TokenKind) → is_word_kind k ≡ true → IsPlain (class_of k p.text)
    go kind.Word k = word_plain p.text r
    go kind.Number k = absurd (cc k)
    go kind.Date k = absurd (cc k)
    go kind.Text k = absurd (cc k)
    go kind.Symbol k = absurd (cc k)

pub plain_is_word : (c : Class) → IsPlain c → is_word c ≡ true
plain_is_word c (IsPlain.plain e) = ap is_word e
plain_is_word c (IsPlain.named f e) = ap is_word e

-- ---- the words of phrases

words_are_words : (t : List ℕ) → is_word (word_class t) ≡ true
words_are_words t = go (bytes_eq t (codes "not")) (bytes_eq t (codes "and")) (bytes_eq t (codes "or")) (bytes_eq t (codes "true")) (bytes_eq t (codes "false")) (bytes_eq t (codes "uncertain")) (function_named t)
  where
    go : (a b c d e f : Bool) (o : Option Function)
        → is_word (if a then class.Not else if b then class.And else if c then class.Or else if d then class.True else if e then class.False else if f then class.Uncertain else function_class o) ≡ true
    go true b c d e f o = refl
    go false true c d e f o = refl
    go false false true d e f o = refl
    go false false false true e f o = refl
    go false false false false true f o = refl
    go false false false false false true o = refl
    go false false false false false false None = refl
    go false false false false false false (Some f) = refl

word_wordlike : (c : Class) → is_word c ≡ true → is_wordlike c ≡ true
word_wordlike class.Word h = refl
word_wordlike (class.Function f) h = refl
word_wordlike class.Not h = refl
word_wordlike class.And h = refl
word_wordlike class.Or h = refl
word_wordlike class.True h = refl
word_wordlike class.False h = refl
word_wordlike class.Uncertain h = refl
word_wordlike class.Number h = refl
word_wordlike class.Date h = absurd (cc h)
word_wordlike class.Text h = absurd (cc h)
word_wordlike class.Open h = absurd (cc h)
word_wordlike class.Close h = absurd (cc h)
word_wordlike class.Comma h = absurd (cc h)
word_wordlike class.Plus h = absurd (cc h)
word_wordlike class.Minus h = absurd (cc h)
word_wordlike class.Times h = absurd (cc h)
word_wordlike class.Slash h = absurd (cc h)
word_wordlike (class.Compare k) h = absurd (cc h)
word_wordlike class.Other h = absurd (cc h)

pub wordlike_text : (t : List ℕ) → is_wordlike (class_of (phrase_word t).kind (phrase_word t).text) ≡ true
wordlike_text [] = refl
wordlike_text (c ∷ cs) = go (is_ascii_digit c)
  where
    go : (b : Bool) → is_wordlike (class_of (cond b (number (c ∷ cs)) (word (c ∷ cs))).kind (cond b (number (c ∷ cs)) (word (c ∷ cs))).text) ≡ true
    go true = refl
    go false = word_wordlike (word_class (c ∷ cs)) (words_are_words (c ∷ cs))

pub wordlike_piece : (p : Piece) → IsWordPiece p → is_wordlike (class_of p.kind p.text) ≡ true
wordlike_piece p h = subst (λ (q : Piece). is_wordlike (class_of q.kind q.text) ≡ true) h.as_word (wordlike_text p.text)

no_bracket : (later : List Piece) (rest : List Lexeme) → AreWordPieces later → ends rest ≡ true → Begins class.Open (all_told (behind later) ++ rest) → ⊥
no_bracket [] [] h e b = b
no_bracket [] (t ∷ ts) h e b = let follows = (and_parts (may_follow t.class) (is_sign t.text) e).0 in absurd (let k : may_follow class.Open ≡ true = sym (ap may_follow b) ∙ follows in cc k)
no_bracket (q ∷ qs) rest h e b = absurd (let k : is_wordlike class.Open ≡ true = sym (ap is_wordlike b) ∙ wordlike_piece q h.0 in cc k)

begins : (s : Bool) (p : Piece) (later : List Piece) (rest : List Lexeme) → IsPlain (class_of p.kind p.text) → AreWordPieces later → ends rest ≡ true → BeginsPhrase (told (token s p)) (all_told (behind later) ++ rest)
begins s p later rest (IsPlain.plain k) h e = BeginsPhrase.word k
begins s p later rest (IsPlain.named f k) h e = BeginsPhrase.function f k (no_bracket later rest h e)

-- ---- a phrase that stands in front

pub dropped : (ps : List Piece) (rest : List Lexeme) → drop (length ps) (all_told (behind ps) ++ rest) ≡ rest
dropped [] rest = refl
dropped (p ∷ ps) rest = dropped ps rest

all_behind : (ps : List Piece) (rest : List Lexeme) → length ps ≤ length (all_told (behind ps) ++ rest)
all_behind [] rest = omega arith
all_behind (p ∷ ps) rest = let k = all_behind ps rest in omega (arith, k)

stands : (ps : List (List ℕ)) → AllDiffer ps → All IsStrung ps → (t : List ℕ) (i : ℕ) → slice_get ps i ≡ Some t → (l : IsLed t) (s : Bool) (rest : List Lexeme) → ends rest ≡ true
    → longest ps (all_told (token s l.first ∷ behind l.later) ++ rest) ≡ Some (i, suc (length l.later))
stands ps d h t i at l s rest e =
    let ts : List Lexeme = all_told (token s l.first ∷ behind l.later) ++ rest in
    foremost_is_longest ps ts i (suc (length l.later)) (record {
      some = omega arith;
      all = let k = all_behind l.later rest in omega (arith, k);
      first = ap (λ x. first_position x 0 ps) (exact_front s l.first l.later rest ∙ sym l.text_is) ∙ place_of ps d t i at;
      no_more = λ k low high j other. no_longer_front s l.first l.later l.is_first l.are_later rest e k low high (front_text k ts) (All_at IsStrung ps j (front_text k ts) other h) refl;
    })

module _ (m : Lists) (inferences : List Inferred) (h : IsReadable m inferences) (texts : AreTexts m) (others : OthersAreTexts m inferences) where
  abbrev ns : Names
  ns = names_in m inferences

  pub operands_differ : AllDiffer (operand_phrases m)
  operands_differ = first_differ (operand_phrases m) (relation_phrases m ++ inferred_phrases inferences) h.differ

  relations_differ : AllDiffer (relation_phrases m ++ inferred_phrases inferences)
  relations_differ = later_differ (operand_phrases m) (relation_phrases m ++ inferred_phrases inferences) h.differ

  operands_strung : All IsStrung (operand_phrases m)
  operands_strung = attribute_texts m m.attributes h.attributes texts.attributes h.denied others.denied

  relations_strung : All IsStrung (relation_phrases m ++ inferred_phrases inferences)
  relations_strung = All-append IsStrung (relation_phrases m) (inferred_phrases inferences)
      (together_all IsUtf8 IsPhrase IsStrung phrase_strung (relation_phrases m) texts.relations h.relations)
      (together_all IsUtf8 IsPhrase IsStrung phrase_strung (inferred_phrases inferences) others.inferred h.others)

  attribute_read : (a : AttrId) → HasAttribute m a → (s : Bool) (rest : List Lexeme) → ends rest ≡ true → SpellsTree ns FACTOR (all_told (phrase s (phrase_of_attribute (attribute_at m a))) ++ rest) (expr.Attr a) rest 0
  attribute_read a has s rest e =
      let t : List ℕ = phrase_of_attribute (attribute_at m a) in
      let l = phrase_led t (attribute_held IsUtf8 m.attributes a.0 has texts.attributes) (attribute_held IsPhrase m.attributes a.0 has h.attributes) in
      let at = meant m 0 m.attributes a.0 has in
      let ts : List Lexeme = all_told (token s l.first ∷ behind l.later) ++ rest in
      let spelled : Spells unbounded ns FACTOR ts (says.operand unbounded (slice_get ns.meanings at.place)) (drop (suc (length l.later)) ts)
      = g.Spells.phrase (begins s l.first l.later rest (plain_first l.first l.is_word l.unreserved) l.are_later e) at.place (suc (length l.later)) (stands (operand_phrases m) operands_differ operands_strung t at.place at.phrase_at l s rest e) in
      let means : slice_get ns.meanings at.place ≡ Some (operand a.0 false) = at.meaning_at ∙ ap (λ k. Some (operand k false)) (let k : 0 + a.0 ≡ a.0 = omega arith in k) in
      subst (λ ws. SpellsTree ns FACTOR (all_told ws ++ rest) (expr.Attr a) rest 0) (sym (phrase_split t l s)) (record {
        reading = says.operand unbounded (Some (operand a.0 false));
        spelled = subst (λ o. Spells unbounded ns FACTOR ts (says.operand unbounded o) rest) means (subst (Spells unbounded ns FACTOR ts (says.operand unbounded (slice_get ns.meanings at.place))) (dropped l.later rest) spelled);
        tree_is = refl;
        nested = omega arith;
      })

  relation_read : (r : RelId) → HasRelation m r → (s : Bool) (rest : List Lexeme) → ends rest ≡ true → relation_in ns (all_told (phrase s (phrase_of_relation (relation_at m r))) ++ rest) ≡ Some (relation.Declared r, rest)
  relation_read r has s rest e =
      let t : List ℕ = phrase_of_relation (relation_at m r) in
      let l = phrase_led t (relation_held IsUtf8 m.relations r.0 has texts.relations) (relation_held IsPhrase m.relations r.0 has h.relations) in
      let at = in_front (relation_phrases m) (inferred_phrases inferences) r.0 t (relation_placed m.relations r.0 has) in
      let ts : List Lexeme = all_told (token s l.first ∷ behind l.later) ++ rest in
      let found = stands (relation_phrases m ++ inferred_phrases inferences) relations_differ relations_strung t r.0 at l s rest e in
      let means = in_front (declared_from 0 m.relations) (inferred_from 0 inferences) r.0 (relation.Declared r) (related m.relations 0 r.0 has ∙ ap (λ k. Some (let rel : RelId = record { 0 = k } in relation.Declared rel)) (let k : 0 + r.0 ≡ r.0 = omega arith in k)) in
      subst (λ ws. relation_in ns (all_told ws ++ rest) ≡ Some (relation.Declared r, rest)) (sym (phrase_split t l s))
      (ap (λ b. cond b (Some (relation_found ns (longest ns.relations ts), past_found ts (longest ns.relations ts))) None) (plain_is_word (class_of l.first.kind l.first.text) (plain_first l.first l.is_word l.unreserved))
      ∙ ap (λ o. Some (relation_found ns o, past_found ts o)) found
      ∙ ap (λ o. Some (related_or_none o, drop (length l.later) (all_told (behind l.later) ++ rest))) means
      ∙ ap (λ x. Some (relation.Declared r, x)) (dropped l.later rest))

pub readable_is_read_holds : ReadableIsRead
readable_is_read_holds m inferences h texts others = record { attributes = attribute_read m inferences h texts others; relations = relation_read m inferences h texts others }
