-- The texts by which rules know things all differ, and so do the items of screens.
use Rattle.std.proofs.Common.{◌≡◌, ◌≢◌, ◌∙◌, ◌+◌, ◌≤◌, ℕ, Bool, true, false, not, cond, ◌||◌, List, [], ◌∷◌, ◌++◌, map, Option, Some, slice_get, All, AllPairs, refl, sym, ap, ap₂, subst, append-nil, arith}
use Rattle.std.specs.Prelude.{flat_map}
use Rattle.std.proofs.lemmas.Bool.{not-false}
use Rattle.std.proofs.lemmas.List.{map-append}
use Rattle.std.proofs.lemmas.List.Concat.{flat_map-append}
use Rattle.std.proofs.lemmas.List.Elements.{All-nil, All-cons, All-head, All-tail, All-same}
use Rattle.std.proofs.lemmas.List.Kept.{AllPairs-cons}
use Rattle.opa_model.specs.declared.things.Item.{Item as Shown}
use Rattle.opa_model.specs.declared.things.Item.TheVariants.{Attr, Members}
use Rattle.opa_model.specs.declared.things.Screen.{Screen}
use Rattle.opa_model.specs.declared.things.Verb.{Verb}
use Rattle.opa_model.specs.Lookups.{attribute_phrases, relation_phrases}
use Rattle.opa_tree.specs.declared.faults.RbKind.TheVariants.{Name as Unnamed}
use Rattle.opa_decl.specs.declared.items.Item.{Item}
use Rattle.opa_decl.specs.declared.items.Item.TheVariants as item
use Rattle.opa_decl.specs.declared.items.Name.{Name}
use Rattle.opa_decl.specs.declared.numbered.Counts.{Counts}
use Rattle.opa_decl.specs.declared.numbered.Numbered.{Numbered}
use Rattle.opa_decl.specs.Faults.{unknown_item, unknown_names}
use Rattle.opa_decl.specs.Lists.{screen_by, shown}
use Rattle.opa_decl.specs.Names.{Tables, texts, place, is_declared, attribute_name, relation_name, screen_name, verb_in, negative, forms}
use Rattle.opa_decl.specs.Numbering.{numbered, no_counts}
use Rattle.opa_decl.proofs.MadeLists.{made, AreNamed, AreFaultless, not_when}
use Rattle.opa_decl.proofs.NumberedLaws.{each_of, all_flat, nothing, map-flat_map, flat_map-same, whatever_number}
use Rattle.opa_decl.proofs.Occurrences.{occurs, occurs-append, occurs-parts, differ_once, at_most_once, not_here, not_again}
use Rattle.opa_decl.proofs.PlaceLaws.{place_found}
use Rattle.opa_decl.proofs.RangeLaws.{known_at}
use Rattle.opa_decl.proofs.ThingLaws.{attribute_phrases_are, relation_phrases_are}

-- ---- phrases and negative forms

module _ (t : Tables) (items : List Item) where
  abbrev verbs : List Verb
  verbs = flat_map verb_in items

  -- the negative form of an item, if it is a bool
  abbrev pub denied_by : Item → List Name
  denied_by (item.Verb v) = []
  denied_by (item.Entity e) = []
  denied_by (item.Attribute a) = negative t.verbs verbs a.phrase.place a.sort
  denied_by (item.Relation r) = []
  denied_by (item.Goal g) = []
  denied_by (item.Screen s) = []
  denied_by (item.File f) = []

  abbrev pub attribute_texts : List (List ℕ)
  attribute_texts = flat_map (λ i. texts (attribute_name i)) items

  abbrev pub denied_texts : List (List ℕ)
  denied_texts = flat_map (λ i. texts (denied_by i)) items

  abbrev pub relation_texts : List (List ℕ)
  relation_texts = flat_map (λ i. texts (relation_name i)) items

  parts_of_form : (i : Item) → texts (forms t.verbs verbs i) ≡ texts (attribute_name i) ++ (texts (denied_by i) ++ texts (relation_name i))
  parts_of_form (item.Verb v) = refl
  parts_of_form (item.Entity e) = refl
  parts_of_form (item.Attribute a) = ap (λ (ys : List (List ℕ)). a.phrase.text ∷ ys) (sym (append-nil (texts (negative t.verbs verbs a.phrase.place a.sort))))
  parts_of_form (item.Relation r) = refl
  parts_of_form (item.Goal g) = refl
  parts_of_form (item.Screen s) = refl
  parts_of_form (item.File f) = refl

  pub forms_differ : AreFaultless t items → (u : List ℕ) → occurs u attribute_texts + (occurs u denied_texts + occurs u relation_texts) ≤ 1
  forms_differ ok u =
      let once = at_most_once (flat_map (forms t.verbs verbs) items) ok.forms_once u in
      let parted : texts (flat_map (forms t.verbs verbs) items) ≡ flat_map (λ i. texts (attribute_name i) ++ (texts (denied_by i) ++ texts (relation_name i))) items =
      map-flat_map (λ (n : Name). n.text) (forms t.verbs verbs) items ∙ flat_map-same (λ (i : Item). texts (forms t.verbs verbs i)) (λ (i : Item). texts (attribute_name i) ++ (texts (denied_by i) ++ texts (relation_name i))) parts_of_form items in
      let same : occurs u (texts (flat_map (forms t.verbs verbs) items)) ≡ occurs u (flat_map (λ i. texts (attribute_name i) ++ (texts (denied_by i) ++ texts (relation_name i))) items) = ap (occurs u) parted in
      omega (
        arith,
        once,
        same,
        occurs-parts (λ (i : Item). texts (attribute_name i)) (λ (i : Item). texts (denied_by i) ++ texts (relation_name i)) u items,
        occurs-parts (λ (i : Item). texts (denied_by i)) (λ (i : Item). texts (relation_name i)) u items,
      )

  pub attributes_texts : attribute_phrases (made t items) ≡ attribute_texts
  attributes_texts = attribute_phrases_are t no_counts items ∙ map-flat_map (λ (n : Name). n.text) attribute_name items

  pub relations_texts : relation_phrases (made t items) ≡ relation_texts
  relations_texts = relation_phrases_are t no_counts items ∙ map-flat_map (λ (n : Name). n.text) relation_name items

  pub phrases_apart : AreFaultless t items → AllPairs (λ p q. p ≢ q) (attribute_phrases (made t items) ++ relation_phrases (made t items))
  phrases_apart ok =
      subst (λ (x : List (List ℕ)). AllPairs (λ p q. p ≢ q) x) (sym (ap₂ (λ (a b : List (List ℕ)). a ++ b) attributes_texts relations_texts))
      (differ_once (attribute_texts ++ relation_texts) (λ u. omega (arith, forms_differ ok u, occurs-append u attribute_texts relation_texts)))

-- ---- what stands on screens

module _ (t : Tables) where
  -- the name of what is shown
  abbrev text_of : Shown → Option (List ℕ)
  text_of (Attr id) = slice_get t.attributes id.0
  text_of (Members id) = slice_get t.relations id.0

  shown_text : (x : Name) → unknown_item t x ≡ [] → text_of (shown t x) ≡ Some x.text
  shown_text x h = go (is_declared t.attributes x.text) refl (not-false _ (not_when (not (is_declared t.attributes x.text || is_declared t.relations x.text)) Unnamed x.place h))
    where
      go : (b : Bool) → is_declared t.attributes x.text ≡ b → (is_declared t.attributes x.text || is_declared t.relations x.text) ≡ true → text_of (shown t x) ≡ Some x.text
      go true e k =
          ap (λ (c : Bool). text_of (cond c (Attr (record { 0 = place t.attributes x.text })) (Members (record { 0 = place t.relations x.text })))) e ∙ place_found t.attributes x.text e
      go false e k =
          ap (λ (c : Bool). text_of (cond c (Attr (record { 0 = place t.attributes x.text })) (Members (record { 0 = place t.relations x.text })))) e
          ∙ place_found t.relations x.text (sym (ap (λ (c : Bool). c || is_declared t.relations x.text) e) ∙ k)

  abbrev IsKnown : Name → Type 0
  IsKnown x = unknown_item t x ≡ []

  shown_apart : (x y : Name) → IsKnown x → IsKnown y → x.text ≢ y.text → shown t x ≢ shown t y
  shown_apart x y kx ky differs same = differs (let e : Some x.text ≡ Some y.text = sym (shown_text x kx) ∙ ap text_of same ∙ shown_text y ky in cc e)

  all_apart : (x : Name) (ys : List Name) → IsKnown x → All IsKnown ys → occurs x.text (texts ys) ≡ 0 → All (λ i. shown t x ≢ i) (map (shown t) ys)
  all_apart x [] kx ky none = All-nil (λ (i : Shown). shown t x ≢ i)
  all_apart x (y ∷ ys) kx ky none =
      All-cons (λ (i : Shown). shown t x ≢ i) (shown t y) (map (shown t) ys) (shown_apart x y kx (All-head IsKnown y ys ky) (not_here x.text y.text (texts ys) none)) (all_apart x ys kx (All-tail IsKnown y ys ky) (omega (arith, none)))

  names_apart : (xs : List Name) → All IsKnown xs → ((u : List ℕ) → occurs u (texts xs) ≤ 1) → AllPairs (λ i j. i ≢ j) (map (shown t) xs)
  names_apart [] known once = λ i j d lt within. absurd (omega (arith, within))
  names_apart (x ∷ xs) known once =
      AllPairs-cons (λ (i j : Shown). i ≢ j) (shown t x) (map (shown t) xs) (all_apart x xs (All-head IsKnown x xs known) (All-tail IsKnown x xs known) (not_again x.text (texts xs) (once x.text)))
      (names_apart xs (All-tail IsKnown x xs known) (λ u. omega (arith, once u)))

  names_known : (c : Counts) (i : Item) → unknown_names t c i ≡ [] → All IsKnown (screen_name i)
  names_known c (item.Verb v) h = All-nil IsKnown
  names_known c (item.Entity e) h = All-nil IsKnown
  names_known c (item.Attribute a) h = All-nil IsKnown
  names_known c (item.Relation r) h = All-nil IsKnown
  names_known c (item.Goal g) h = All-nil IsKnown
  names_known c (item.Screen s) h = nothing (unknown_item t) s.items h
  names_known c (item.File f) h = All-nil IsKnown

  items_on : (i : Item) → flat_map (λ s. s.items) (screen_by t i) ≡ map (shown t) (screen_name i)
  items_on (item.Verb v) = refl
  items_on (item.Entity e) = refl
  items_on (item.Attribute a) = refl
  items_on (item.Relation r) = refl
  items_on (item.Goal g) = refl
  items_on (item.Screen s) = append-nil (map (shown t) s.items)
  items_on (item.File f) = refl

  all_items : (items : List Item) → flat_map (λ s. s.items) (flat_map (screen_by t) items) ≡ map (shown t) (flat_map screen_name items)
  all_items [] = refl
  all_items (i ∷ is) =
      flat_map-append (λ (s : Screen). s.items) (screen_by t i) (flat_map (screen_by t) is) ∙ ap₂ (λ (a b : List Shown). a ++ b) (items_on i) (all_items is)
      ∙ sym (map-append (shown t) (screen_name i) (flat_map screen_name is))

  pub items_apart : (items : List Item) → AreNamed t items → AreFaultless t items → AllPairs (λ i j. i ≢ j) (flat_map (λ s. s.items) (flat_map (screen_by t) items))
  items_apart items named ok =
      let ns : List Numbered = numbered no_counts items in
      let known : All IsKnown (flat_map screen_name items) =
      All-same IsKnown (flat_map screen_name items) (flat_map (λ (n : Numbered). screen_name n.item) ns) (sym (whatever_number screen_name no_counts items))
      (all_flat IsKnown (λ (n : Numbered). screen_name n.item) ns (each_of (λ (n : Numbered). All IsKnown (screen_name n.item)) ns (λ n at. names_known n.before n.item (known_at t items named ok n at)))) in
      subst (λ (x : List Shown). AllPairs (λ i j. i ≢ j) x) (sym (all_items items)) (names_apart (flat_map screen_name items) known (at_most_once (flat_map screen_name items) ok.shown_once))
