-- Rules can read the texts of a model that blocks declare.
use Rattle.std.proofs.Common.{◌≡◌, ◌≢◌, ◌∙◌, ℕ, suc, zero, List, [], ◌∷◌, ◌++◌, Option, Some, None, slice_get, All, AllPairs, refl, sym, ap, subst, append-nil, arith}
use Rattle.std.specs.Prelude.{flat_map}
use Rattle.std.specs.Option.{option_map}
use Rattle.std.specs.Str.{IsUtf8}
use Rattle.std.proofs.lemmas.List.Concat.{flat_map-append}
use Rattle.std.proofs.lemmas.List.Elements.{All-nil, All-cons, All-head, All-tail, All-map, All-weaker}
use Rattle.opa_model.specs.declared.lists.Lists.{Lists}
use Rattle.opa_model.specs.declared.things.Attribute.{Attribute}
use Rattle.opa_model.specs.declared.things.Relation.{Relation}
use Rattle.opa_model.specs.declared.things.Verb.{Verb}
use Rattle.opa_model.specs.Lookups.{attribute_phrases, relation_phrases}
use Rattle.opa_verbs.specs.declared.sentence.Form.TheVariants.{Negative}
use Rattle.opa_verbs.specs.Forms.{spoken, beside}
use Rattle.opa_words.specs.declared.layout.block.Block.{Block}
use Rattle.opa_decl.specs.declared.cut.CutBlock.{CutBlock}
use Rattle.opa_decl.specs.declared.items.Item.{Item}
use Rattle.opa_decl.specs.declared.items.Item.TheVariants as item
use Rattle.opa_decl.specs.declared.items.Place.{Place}
use Rattle.opa_decl.specs.declared.items.Sort.{Sort}
use Rattle.opa_decl.specs.declared.items.Sort.TheVariants as sort
use Rattle.opa_decl.specs.declared.numbered.Numbered.{Numbered}
use Rattle.opa_decl.specs.Cutting.{HaveTokens}
use Rattle.opa_decl.specs.Declarations.{Declares, model_of, item_faults, items_of, faults_of, syntax_faults}
use Rattle.opa_decl.specs.Lists.{lists_of, sentence_in, attribute_by, attribute_in, relation_by, relation_in}
use Rattle.opa_decl.specs.Names.{Tables, tables_of, texts, place, sentence, attribute_name, verb_in, denied, negative}
use Rattle.opa_decl.specs.Numbering.{numbered, no_counts}
use Rattle.opa_verbs.specs.Phrasing.{IsWorded, IsPhrase, IsReadable, listed, denials, denials_by, texts_of, operand_phrases}
use Rattle.opa_decl.proofs.FormLaws.{denied_by, relation_texts, forms_differ, relations_texts}
use Rattle.opa_decl.proofs.MadeLists.{made, attributes, relations, AreFaultless, without_fault, all_numbered}
use Rattle.opa_decl.proofs.NumberedLaws.{no_parts, all_flat, flat_map-same, whatever_number}
use Rattle.opa_decl.proofs.Occurrences.{occurs, occurs-append, occurs-parts, differ_once}
use Rattle.opa_decl.proofs.PhrasedItems.{IsPhrased, IsPhraseText, SaysWell, items_phrased}
use Rattle.opa_decl.proofs.PhraseTexts.{IsSaidFully, worded_said, said_beside, fully_beside}

-- what stands at a place is one of all
all_get : {A : Type 0} (P : A → Type 0) (xs : List A) (k : ℕ) (x : A) → All P xs → slice_get xs k ≡ Some x → P x
all_get P [] k x all h = absurd (cc h)
all_get {A} P (y ∷ ys) zero x all h = subst (λ (z : A). P z) (let e : y ≡ x = cc h in e) (All-head P y ys all)
all_get P (y ∷ ys) (suc k) x all h = all_get P ys k x (All-tail P y ys all) h

flat_map-flat_map : {A B C : Type 0} (g : B → List C) (f : A → List B) (xs : List A) → flat_map g (flat_map f xs) ≡ flat_map (λ x. flat_map g (f x)) xs
flat_map-flat_map g f [] = refl
flat_map-flat_map {A} {B} {C} g f (x ∷ xs) = flat_map-append g (f x) (flat_map f xs) ∙ ap (λ (ys : List C). flat_map g (f x) ++ ys) (flat_map-flat_map g f xs)

module _ (t : Tables) (items : List Item) where
  abbrev m : Lists
  m = made t items

  abbrev verbs : List Verb
  verbs = flat_map verb_in items

  abbrev ns : List Numbered
  ns = numbered no_counts items

  -- ---- phrases

  attribute_phrased : (n : Numbered) (i : Item) → IsPhrased i → All (λ a. IsPhraseText a.phrase) (attribute_by t n i)
  attribute_phrased n (item.Verb v) h = All-nil (λ (a : Attribute). IsPhraseText a.phrase)
  attribute_phrased n (item.Entity e) h = All-nil (λ (a : Attribute). IsPhraseText a.phrase)
  attribute_phrased n (item.Attribute a) h = All-cons (λ (a : Attribute). IsPhraseText a.phrase) _ [] h.0 (All-nil (λ (a : Attribute). IsPhraseText a.phrase))
  attribute_phrased n (item.Relation r) h = All-nil (λ (a : Attribute). IsPhraseText a.phrase)
  attribute_phrased n (item.Goal g) h = All-nil (λ (a : Attribute). IsPhraseText a.phrase)
  attribute_phrased n (item.Screen s) h = All-nil (λ (a : Attribute). IsPhraseText a.phrase)
  attribute_phrased n (item.File f) h = All-nil (λ (a : Attribute). IsPhraseText a.phrase)

  relation_phrased : (n : Numbered) (i : Item) → IsPhrased i → All (λ r. IsPhraseText r.phrase) (relation_by t n i)
  relation_phrased n (item.Verb v) h = All-nil (λ (r : Relation). IsPhraseText r.phrase)
  relation_phrased n (item.Entity e) h = All-cons (λ (r : Relation). IsPhraseText r.phrase) _ [] h (All-nil (λ (r : Relation). IsPhraseText r.phrase))
  relation_phrased n (item.Attribute a) h = All-nil (λ (r : Relation). IsPhraseText r.phrase)
  relation_phrased n (item.Relation r) h = All-cons (λ (r : Relation). IsPhraseText r.phrase) _ [] h (All-nil (λ (r : Relation). IsPhraseText r.phrase))
  relation_phrased n (item.Goal g) h = All-nil (λ (r : Relation). IsPhraseText r.phrase)
  relation_phrased n (item.Screen s) h = All-nil (λ (r : Relation). IsPhraseText r.phrase)
  relation_phrased n (item.File f) h = All-nil (λ (r : Relation). IsPhraseText r.phrase)

  -- ---- negative forms

  verb_worded : (i : Item) → IsPhrased i → All (λ v. IsSaidFully v.negative) (verb_in i)
  verb_worded (item.Verb v) h = All-cons (λ (v : Verb). IsSaidFully v.negative) v.verb [] h (All-nil (λ (v : Verb). IsSaidFully v.negative))
  verb_worded (item.Entity e) h = All-nil (λ (v : Verb). IsSaidFully v.negative)
  verb_worded (item.Attribute a) h = All-nil (λ (v : Verb). IsSaidFully v.negative)
  verb_worded (item.Relation r) h = All-nil (λ (v : Verb). IsSaidFully v.negative)
  verb_worded (item.Goal g) h = All-nil (λ (v : Verb). IsSaidFully v.negative)
  verb_worded (item.Screen s) h = All-nil (λ (v : Verb). IsSaidFully v.negative)
  verb_worded (item.File f) h = All-nil (λ (v : Verb). IsSaidFully v.negative)

  denial_worded : (s : Sort) → All (λ v. IsSaidFully v.negative) verbs → SaysWell s → All IsWorded (denials_by m (sentence_in t.verbs s))
  denial_worded (sort.Bool said) all h = go (slice_get verbs (place t.verbs said.positive)) refl
    where
      go : (o : Option Verb) → slice_get verbs (place t.verbs said.positive) ≡ o → All IsWorded (listed (option_map (λ v. spoken v (sentence t.verbs said) Negative) o))
      go None e = All-nil IsWorded
      go (Some v) e =
          let says = all_get (λ (v : Verb). IsSaidFully v.negative) verbs (place t.verbs said.positive) v all e in
          All-cons IsWorded _ [] (worded_said _ (fully_beside said.subject (beside v.negative said.rest) h.0 (said_beside v.negative said.rest says.said h.1))) (All-nil IsWorded)
  denial_worded (sort.Number b) all h = All-nil IsWorded
  denial_worded (sort.Currency b) all h = All-nil IsWorded
  denial_worded sort.Words all h = All-nil IsWorded
  denial_worded sort.Date all h = All-nil IsWorded

  abbrev IsDenied : Attribute → Type 0
  IsDenied a = All IsWorded (denials m a)

  denied_here : (n : Numbered) (i : Item) → All (λ v. IsSaidFully v.negative) verbs → IsPhrased i → All IsDenied (attribute_by t n i)
  denied_here n (item.Verb v) all h = All-nil IsDenied
  denied_here n (item.Entity e) all h = All-nil IsDenied
  denied_here n (item.Attribute a) all h = All-cons IsDenied _ [] (denial_worded a.sort all h.1) (All-nil IsDenied)
  denied_here n (item.Relation r) all h = All-nil IsDenied
  denied_here n (item.Goal g) all h = All-nil IsDenied
  denied_here n (item.Screen s) all h = All-nil IsDenied
  denied_here n (item.File f) all h = All-nil IsDenied

  -- ---- all of them

  same_denial : (at : Place) (s : Sort) → denials_by m (sentence_in t.verbs s) ≡ texts (negative t.verbs verbs at s)
  same_denial at (sort.Bool said) = go (slice_get verbs (place t.verbs said.positive))
    where
      go : (o : Option Verb) → listed (option_map (λ v. spoken v (sentence t.verbs said) Negative) o) ≡ texts (denied t.verbs at said o)
      go None = refl
      go (Some v) = refl
  same_denial at (sort.Number b) = refl
  same_denial at (sort.Currency b) = refl
  same_denial at sort.Words = refl
  same_denial at sort.Date = refl

  operand_texts : (n : Numbered) (i : Item) → flat_map (texts_of m) (attribute_by t n i) ≡ texts (attribute_name i) ++ texts (denied_by t items i)
  operand_texts n (item.Verb v) = refl
  operand_texts n (item.Entity e) = refl
  operand_texts n (item.Attribute a) = ap (λ (ys : List (List ℕ)). a.phrase.text ∷ ys) (append-nil (denials_by m (sentence_in t.verbs a.sort)) ∙ same_denial a.phrase.place a.sort)
  operand_texts n (item.Relation r) = refl
  operand_texts n (item.Goal g) = refl
  operand_texts n (item.Screen s) = refl
  operand_texts n (item.File f) = refl

  operands_are : operand_phrases m ≡ flat_map (λ i. texts (attribute_name i) ++ texts (denied_by t items i)) items
  operands_are =
      flat_map-flat_map (texts_of m) (attribute_in t) ns
      ∙ flat_map-same (λ (n : Numbered). flat_map (texts_of m) (attribute_in t n)) (λ (n : Numbered). texts (attribute_name n.item) ++ texts (denied_by t items n.item)) (λ n. operand_texts n n.item) ns
      ∙ whatever_number (λ (i : Item). texts (attribute_name i) ++ texts (denied_by t items i)) no_counts items

  all_differ : AreFaultless t items → AllPairs (λ p q. p ≢ q) (operand_phrases m ++ relation_phrases m)
  all_differ ok =
      differ_once (operand_phrases m ++ relation_phrases m) (λ u.
      let operands : occurs u (operand_phrases m) ≡ occurs u (flat_map (λ i. texts (attribute_name i) ++ texts (denied_by t items i)) items) = ap (occurs u) operands_are in
      let related : occurs u (relation_phrases m) ≡ occurs u (relation_texts t items) = ap (occurs u) (relations_texts t items) in
      omega (arith, forms_differ t items ok u, operands, related, occurs-append u (operand_phrases m) (relation_phrases m), occurs-parts (λ (i : Item). texts (attribute_name i)) (λ (i : Item). texts (denied_by t items i)) u items))

  -- the phrases of attributes, and those of relations
  pub made_phrases : All IsPhrased items → All IsPhraseText (attribute_phrases m) × All IsPhraseText (relation_phrases m)
  made_phrases h =
      let phrased : All (λ (n : Numbered). IsPhrased n.item) ns = all_numbered IsPhrased no_counts items h in (
        All-map IsPhraseText (λ (a : Attribute). a.phrase) (attributes t items)
            (all_flat (λ (a : Attribute). IsPhraseText a.phrase) (attribute_in t) ns (All-weaker (λ (n : Numbered). IsPhrased n.item) (λ (n : Numbered). All (λ (a : Attribute). IsPhraseText a.phrase) (attribute_in t n)) (λ n k. attribute_phrased n n.item k) ns phrased)),
        All-map IsPhraseText (λ (r : Relation). r.phrase) (relations t items)
            (all_flat (λ (r : Relation). IsPhraseText r.phrase) (relation_in t) ns (All-weaker (λ (n : Numbered). IsPhrased n.item) (λ (n : Numbered). All (λ (r : Relation). IsPhraseText r.phrase) (relation_in t n)) (λ n k. relation_phrased n n.item k) ns phrased)),
      )

  pub made_readable : AreFaultless t items → All IsPhrased items → IsReadable m
  made_readable ok h =
      let phrased : All (λ (n : Numbered). IsPhrased n.item) ns = all_numbered IsPhrased no_counts items h in
      let said : All (λ (v : Verb). IsSaidFully v.negative) verbs = all_flat (λ (v : Verb). IsSaidFully v.negative) verb_in items (All-weaker IsPhrased (λ (i : Item). All (λ (v : Verb). IsSaidFully v.negative) (verb_in i)) verb_worded items h) in
      record {
        attributes = All-weaker IsPhraseText IsPhrase (λ text is. is.0) (attribute_phrases m) (made_phrases h).0;
        relations = All-weaker IsPhraseText IsPhrase (λ text is. is.0) (relation_phrases m) (made_phrases h).1;
        denied = all_flat IsWorded (denials m) (attributes t items)
            (all_flat IsDenied (attribute_in t) ns (All-weaker (λ (n : Numbered). IsPhrased n.item) (λ (n : Numbered). All IsDenied (attribute_in t n)) (λ n k. denied_here n n.item said k) ns phrased));
        others = All-nil IsPhrase;
        differ = subst (λ ps. AllPairs (λ p q. p ≢ q) (operand_phrases m ++ ps)) (sym (append-nil (relation_phrases m))) (all_differ ok);
      }

readable_model : (items : List Item) → item_faults items ≡ [] → All IsPhrased items → IsReadable (model_of items)
unfolding model_of item_faults lists_of
readable_model items none phrased = made_readable (tables_of items) items (without_fault (tables_of items) items none) phrased

-- the model of blocks without a fault
pub readable_by : (blocks : List CutBlock) (items : List Item) (l : Lists) → All HaveTokens blocks → faults_of blocks ≡ [] → items ≡ items_of blocks → l ≡ model_of items → IsReadable l
readable_by blocks items l cut none is made_is =
    let none_of : item_faults items ≡ [] = ap item_faults is ∙ (no_parts (flat_map syntax_faults blocks) (item_faults (items_of blocks)) none).1 in
    subst IsReadable (sym made_is) (readable_model items none_of (subst (λ (is : List Item). All IsPhrased is) (sym is) (items_phrased blocks cut)))

abbrev AreTexts : Lists → Type 0
AreTexts m = All IsUtf8 (attribute_phrases m) × All IsUtf8 (relation_phrases m)

are_texts : (items : List Item) → All IsPhrased items → AreTexts (model_of items)
unfolding model_of lists_of
are_texts items phrased =
    let both = made_phrases (tables_of items) items phrased in (
      All-weaker IsPhraseText IsUtf8 (λ text is. is.1) (attribute_phrases (model_of items)) both.0,
      All-weaker IsPhraseText IsUtf8 (λ text is. is.1) (relation_phrases (model_of items)) both.1,
    )

-- the phrases of attributes, and those of relations, that blocks declare are UTF-8
pub declared_texts : (blocks : List Block) (m : Lists) → Declares blocks m → AreTexts m
declared_texts blocks m h = subst AreTexts (sym h.model_is) (are_texts (items_of h.read) (items_phrased h.read h.cut.tokens))
