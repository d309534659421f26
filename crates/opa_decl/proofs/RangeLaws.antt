-- Ids of what items declare are in range.
use Rattle.std.proofs.Common.{◌≡◌, ◌∙◌, ◌+◌, ◌<◌, ◌≤◌, ◌^◌, ℕ, Bool, true, false, not, cond, ◌||◌, List, [], length, Option, Some, None, slice_get, All, Contains, IfSome, refl, sym, ap, subst, arith}
use Rattle.std.specs.Prelude.{flat_map}
use Rattle.std.proofs.lemmas.Bool.{ltb-true, not-false, eqb-true}
use Rattle.std.proofs.lemmas.List.{length-map}
use Rattle.std.proofs.lemmas.List.Elements.{All-nil, All-cons, All-contains, All-map, All-same, All-weaker}
use Rattle.opa_model.specs.declared.ids.AttrId.{AttrId}
use Rattle.opa_model.specs.declared.things.Attribute.{Attribute}
use Rattle.opa_model.specs.declared.things.Entity.{Entity}
use Rattle.opa_model.specs.declared.things.Relation.{Relation}
use Rattle.opa_model.specs.declared.things.Screen.{Screen}
use Rattle.opa_model.specs.declared.things.Item.TheVariants.{Attr, Members}
use Rattle.opa_model.specs.Lookups.{attribute_at}
use Rattle.opa_model.specs.Models.{HasEntity, HasAttribute, HasVerb, HasItem, AreFew, AreInRange}
use Rattle.opa_tree.specs.declared.faults.RbKind.TheVariants.{Name as Unnamed, Scope}
use Rattle.opa_decl.specs.declared.items.Item.{Item}
use Rattle.opa_decl.specs.declared.items.Item.TheVariants as item
use Rattle.opa_decl.specs.declared.items.Name.{Name}
use Rattle.opa_decl.specs.declared.items.Place.{Place}
use Rattle.opa_decl.specs.declared.items.Sort.{Sort}
use Rattle.opa_decl.specs.declared.items.Sort.TheVariants as sort
use Rattle.opa_decl.specs.declared.numbered.Counts.{Counts}
use Rattle.opa_decl.specs.declared.numbered.Numbered.{Numbered}
use Rattle.opa_decl.specs.Faults.{unknown_parent, unknown_verb, unknown_item, unknown_names, name_faults, scope_faults, is_of_another}
use Rattle.opa_decl.specs.Lists.{global_entity, owner, source, sentence_in, parent_of, entity_by, entity_in, attribute_by, attribute_in, relation_by, relation_in, screen_by, shown, goal_by}
use Rattle.opa_decl.specs.Names.{Tables, place, is_declared, goal_name, verb_in}
use Rattle.opa_decl.specs.Numbering.{numbered, no_counts, is_every}
use Rattle.opa_decl.proofs.CountLaws.{flat_map_short, verb_in-short, goal_name-short}
use Rattle.opa_decl.proofs.MadeLists.{entities, attributes, relations, goals, made, AreNamed, AreFaultless, below, not_when}
use Rattle.opa_decl.proofs.NumberedLaws.{each_of, all_flat, nothing, whatever_number, number_within, length-numbered}
use Rattle.opa_decl.proofs.ThingLaws.{verb_of, verbs_counted, entities_counted, entities_named, attributes_named, relations_named, one_entity, one_attribute, one_relation}

-- ---- one item

module _ (t : Tables) where
  -- a parent comes before what it contains
  pub parent_before : (c : Counts) (o : Option Name) → unknown_parent t c o ≡ [] → 0 < c.entities → (parent_of t o).0 < c.entities
  parent_before c None h some = some
  parent_before c (Some p) h some = below (1 + place t.entities p.text) c.entities p.place h

  owner_within : (n : Numbered) (of_global : Bool) (total : ℕ) → n.before.entities ≤ total → 0 < total → (owner n of_global).0 < total
  owner_within n true total h some = some
  owner_within n false total h some = omega (arith, h, some)

  source_within : (n : Numbered) (every of_global : Bool) (total : ℕ) → n.before.entities ≤ total → 0 < total → (source n every of_global).0 < total
  source_within n true of_global total h some = some
  source_within n false of_global total h some = owner_within n of_global total h some

  sentence_within : (c : Counts) (at : Place) (s : Sort) (total : ℕ) → unknown_verb t c at s ≡ [] → c.verbs ≤ total → IfSome (sentence_in t.verbs s) (λ sentence. sentence.verb < total)
  sentence_within c at (sort.Bool said) total h few = let first : place t.verbs said.positive < c.verbs = below (place t.verbs said.positive) c.verbs at h in omega (arith, first, few)
  sentence_within c at (sort.Number b) total h few = tt
  sentence_within c at (sort.Currency b) total h few = tt
  sentence_within c at sort.Words total h few = tt
  sentence_within c at sort.Date total h few = tt

  parent_in : (n : Numbered) (i : Item) (total : ℕ) → unknown_names t n.before i ≡ [] → 0 < n.before.entities → n.before.entities ≤ total → All (λ e. e.parent.0 < total) (entity_by t n i)
  parent_in n (item.Verb v) total h some few = All-nil (λ (e : Entity). e.parent.0 < total)
  parent_in n (item.Entity l) total h some few =
      let before : (parent_of t l.parent).0 < n.before.entities = parent_before n.before l.parent h some in
      All-cons (λ (e : Entity). e.parent.0 < total) _ [] (omega (arith, before, few)) (All-nil (λ (e : Entity). e.parent.0 < total))
  parent_in n (item.Attribute a) total h some few = All-nil (λ (e : Entity). e.parent.0 < total)
  parent_in n (item.Relation r) total h some few = All-nil (λ (e : Entity). e.parent.0 < total)
  parent_in n (item.Goal g) total h some few = All-nil (λ (e : Entity). e.parent.0 < total)
  parent_in n (item.Screen s) total h some few = All-nil (λ (e : Entity). e.parent.0 < total)
  parent_in n (item.File f) total h some few = All-nil (λ (e : Entity). e.parent.0 < total)

  owner_in : (n : Numbered) (i : Item) (total : ℕ) → n.before.entities ≤ total → 0 < total → All (λ a. a.entity.0 < total) (attribute_by t n i)
  owner_in n (item.Verb v) total few some = All-nil (λ (a : Attribute). a.entity.0 < total)
  owner_in n (item.Entity l) total few some = All-nil (λ (a : Attribute). a.entity.0 < total)
  owner_in n (item.Attribute a) total few some = All-cons (λ (a : Attribute). a.entity.0 < total) _ [] (owner_within n a.of_global total few some) (All-nil (λ (a : Attribute). a.entity.0 < total))
  owner_in n (item.Relation r) total few some = All-nil (λ (a : Attribute). a.entity.0 < total)
  owner_in n (item.Goal g) total few some = All-nil (λ (a : Attribute). a.entity.0 < total)
  owner_in n (item.Screen s) total few some = All-nil (λ (a : Attribute). a.entity.0 < total)
  owner_in n (item.File f) total few some = All-nil (λ (a : Attribute). a.entity.0 < total)

  abbrev SaysWithin : ℕ → Attribute → Type 0
  SaysWithin total a = IfSome a.sentence (λ sentence. sentence.verb < total)

  verb_within : (n : Numbered) (i : Item) (total : ℕ) → unknown_names t n.before i ≡ [] → n.before.verbs ≤ total → All (SaysWithin total) (attribute_by t n i)
  verb_within n (item.Verb v) total h few = All-nil (SaysWithin total)
  verb_within n (item.Entity l) total h few = All-nil (SaysWithin total)
  verb_within n (item.Attribute a) total h few = All-cons (SaysWithin total) _ [] (sentence_within n.before a.phrase.place a.sort total h few) (All-nil (SaysWithin total))
  verb_within n (item.Relation r) total h few = All-nil (SaysWithin total)
  verb_within n (item.Goal g) total h few = All-nil (SaysWithin total)
  verb_within n (item.Screen s) total h few = All-nil (SaysWithin total)
  verb_within n (item.File f) total h few = All-nil (SaysWithin total)

  abbrev LeadsWithin : ℕ → Relation → Type 0
  LeadsWithin total r = (r.source.0 < total) × (r.target.0 < total)

  ends_in : (n : Numbered) (i : Item) (total : ℕ) → unknown_names t n.before i ≡ [] → 0 < n.before.entities → n.before.entities + length (entity_by t n i) ≤ total → 1 + length t.entities ≡ total → All (LeadsWithin total) (relation_by t n i)
  ends_in n (item.Verb v) total h some few all = All-nil (LeadsWithin total)
  ends_in n (item.Entity l) total h some few all =
      let before : (parent_of t l.parent).0 < n.before.entities = parent_before n.before l.parent h some in
      All-cons (LeadsWithin total) _ [] (omega (arith, before, few), omega (arith, few)) (All-nil (LeadsWithin total))
  ends_in n (item.Attribute a) total h some few all = All-nil (LeadsWithin total)
  ends_in n (item.Relation r) total h some few all =
      let known : place t.entities r.target.text < length t.entities = below (place t.entities r.target.text) (length t.entities) r.target.place h in
      All-cons (LeadsWithin total) _ [] (source_within n (is_every r.reach) r.of_global total (omega (arith, few)) (omega (arith, all)), omega (arith, known, all)) (All-nil (LeadsWithin total))
  ends_in n (item.Goal g) total h some few all = All-nil (LeadsWithin total)
  ends_in n (item.Screen s) total h some few all = All-nil (LeadsWithin total)
  ends_in n (item.File f) total h some few all = All-nil (LeadsWithin total)

  -- every goal is an attribute
  abbrev IsAttribute : Name → Type 0
  IsAttribute g = place t.attributes g.text < length t.attributes

  goal_in : (c : Counts) (i : Item) → unknown_names t c i ≡ [] → All IsAttribute (goal_name i)
  goal_in c (item.Verb v) h = All-nil IsAttribute
  goal_in c (item.Entity l) h = All-nil IsAttribute
  goal_in c (item.Attribute a) h = All-nil IsAttribute
  goal_in c (item.Relation r) h = All-nil IsAttribute
  goal_in c (item.Goal g) h = All-cons IsAttribute g [] (below (place t.attributes g.text) (length t.attributes) g.place h) (All-nil IsAttribute)
  goal_in c (item.Screen s) h = All-nil IsAttribute
  goal_in c (item.File f) h = All-nil IsAttribute

  pub of_global : (o : Option Attribute) → is_of_another o ≡ false → IfSome o (λ a. a.entity.0 ≡ 0)
  of_global None h = tt
  of_global (Some a) h = eqb-true a.entity.0 0 (not-false _ h)

-- ---- all items

module _ (t : Tables) (items : List Item) (named : AreNamed t items) (ok : AreFaultless t items) where
  abbrev ns : List Numbered
  ns = numbered no_counts items

  abbrev all_entities : ℕ
  all_entities = length (entities t items)

  pub known_at : (n : Numbered) → Contains ns n → unknown_names t n.before n.item ≡ []
  known_at n at = All-contains (λ (m : Numbered). name_faults t m ≡ []) ns n ok.known at

  -- the global entity is before each item, and what an item declares is among all
  pub entities_within : (n : Numbered) → Contains ns n → (0 < n.before.entities) × (n.before.entities + length (entity_in t n) ≤ all_entities)
  entities_within n at = let w = number_within (entity_in t) (λ (c : Counts). c.entities) (entities_counted t) no_counts items n at in (omega (arith, w.0), omega (arith, w.1))

  verbs_within : (n : Numbered) → Contains ns n → n.before.verbs ≤ length (flat_map verb_in items)
  verbs_within n at =
      let w = number_within verb_of (λ (c : Counts). c.verbs) verbs_counted no_counts items n at in
      let same : length (flat_map verb_of ns) ≡ length (flat_map verb_in items) = ap length (whatever_number verb_in no_counts items) in
      omega (arith, w.1, same)

  all_named : 1 + length t.entities ≡ all_entities
  all_named = let same : length t.entities ≡ length (flat_map (entity_in t) ns) = ap length named.entities_are ∙ sym (entities_named t no_counts items) in omega (arith, same)

  parents_in : All (λ e. HasEntity (made t items) e.parent) (entities t items)
  parents_in =
      All-cons (λ (e : Entity). e.parent.0 < all_entities) global_entity (flat_map (entity_in t) ns) (omega arith)
      (all_flat (λ (e : Entity). e.parent.0 < all_entities) (entity_in t) ns (each_of (λ (n : Numbered). All (λ (e : Entity). e.parent.0 < all_entities) (entity_in t n)) ns
      (λ n at. let w = entities_within n at in parent_in t n n.item all_entities (known_at n at) w.0 (omega (arith, w.1)))))

  owners_in : All (λ a. HasEntity (made t items) a.entity) (attributes t items)
  owners_in =
      all_flat (λ (a : Attribute). a.entity.0 < all_entities) (attribute_in t) ns (each_of (λ (n : Numbered). All (λ (a : Attribute). a.entity.0 < all_entities) (attribute_in t n)) ns
      (λ n at. let w = entities_within n at in owner_in t n n.item all_entities (omega (arith, w.1)) (omega (arith, w.0, w.1))))

  sentences_in : All (λ a. IfSome a.sentence (HasVerb (made t items))) (attributes t items)
  sentences_in =
      all_flat (SaysWithin t (length (flat_map verb_in items))) (attribute_in t) ns (each_of (λ (n : Numbered). All (SaysWithin t (length (flat_map verb_in items))) (attribute_in t n)) ns
      (λ n at. verb_within t n n.item (length (flat_map verb_in items)) (known_at n at) (verbs_within n at)))

  relations_in : All (LeadsWithin t all_entities) (relations t items)
  relations_in =
      all_flat (LeadsWithin t all_entities) (relation_in t) ns (each_of (λ (n : Numbered). All (LeadsWithin t all_entities) (relation_in t n)) ns
      (λ n at. let w = entities_within n at in ends_in t n n.item all_entities (known_at n at) w.0 w.1 all_named))

  attributes_within : length t.attributes ≡ length (attributes t items)
  attributes_within = ap length named.attributes_are ∙ sym (attributes_named t no_counts items)

  relations_within : length t.relations ≡ length (relations t items)
  relations_within = ap length named.relations_are ∙ sym (relations_named t no_counts items)

  -- each goal is an attribute
  goals_known : All (IsAttribute t) (flat_map goal_name items)
  goals_known =
      All-same (IsAttribute t) (flat_map goal_name items) (flat_map (λ (n : Numbered). goal_name n.item) ns) (sym (whatever_number goal_name no_counts items))
      (all_flat (IsAttribute t) (λ (n : Numbered). goal_name n.item) ns (each_of (λ (n : Numbered). All (IsAttribute t) (goal_name n.item)) ns (λ n at. goal_in t n.before n.item (known_at n at))))

  goals_in : All (HasAttribute (made t items)) (goals t items)
  goals_in =
      All-map (HasAttribute (made t items)) (goal_by t) (flat_map goal_name items)
      (All-weaker (IsAttribute t) (λ (g : Name). HasAttribute (made t items) (goal_by t g)) (λ g h. omega (arith, h, attributes_within)) (flat_map goal_name items) goals_known)

  pub goals_of_global : All (λ id. IfSome (attribute_at (made t items) id) (λ a. a.entity.0 ≡ 0)) (goals t items)
  goals_of_global =
      All-map (λ (id : AttrId). IfSome (attribute_at (made t items) id) (λ a. a.entity.0 ≡ 0)) (goal_by t) (flat_map goal_name items)
      (All-weaker (λ (g : Name). scope_faults t (attributes t items) g ≡ []) (λ (g : Name). IfSome (attribute_at (made t items) (goal_by t g)) (λ a. a.entity.0 ≡ 0))
      (λ g h. of_global t (slice_get (attributes t items) (place t.attributes g.text)) (not_when (is_of_another (slice_get (attributes t items) (place t.attributes g.text))) Scope g.place h)) (flat_map goal_name items) ok.scoped)

  -- ---- what stands on screens

  shown_here : (x : Name) → unknown_item t x ≡ [] → HasItem (made t items) (shown t x)
  shown_here x h = go (is_declared t.attributes x.text) refl (not-false _ (not_when (not (is_declared t.attributes x.text || is_declared t.relations x.text)) Unnamed x.place h))
    where
      go : (b : Bool) → is_declared t.attributes x.text ≡ b → (is_declared t.attributes x.text || is_declared t.relations x.text) ≡ true → HasItem (made t items) (shown t x)
      go true e k =
          let first : place t.attributes x.text < length t.attributes = ltb-true _ _ e in
          subst (λ (c : Bool). HasItem (made t items) (cond c (Attr (record { 0 = place t.attributes x.text })) (Members (record { 0 = place t.relations x.text })))) (sym e) (omega (arith, first, attributes_within))
      go false e k =
          let second : place t.relations x.text < length t.relations = ltb-true _ _ (sym (ap (λ (c : Bool). c || is_declared t.relations x.text) e) ∙ k) in
          subst (λ (c : Bool). HasItem (made t items) (cond c (Attr (record { 0 = place t.attributes x.text })) (Members (record { 0 = place t.relations x.text })))) (sym e) (omega (arith, second, relations_within))

  abbrev ShowsKnown : Screen → Type 0
  ShowsKnown s = All (HasItem (made t items)) s.items

  screen_here : (c : Counts) (i : Item) → unknown_names t c i ≡ [] → All ShowsKnown (screen_by t i)
  screen_here c (item.Verb v) h = All-nil ShowsKnown
  screen_here c (item.Entity l) h = All-nil ShowsKnown
  screen_here c (item.Attribute a) h = All-nil ShowsKnown
  screen_here c (item.Relation r) h = All-nil ShowsKnown
  screen_here c (item.Goal g) h = All-nil ShowsKnown
  screen_here c (item.Screen s) h =
      All-cons ShowsKnown _ [] (All-map (HasItem (made t items)) (shown t) s.items (All-weaker (λ (x : Name). unknown_item t x ≡ []) (λ (x : Name). HasItem (made t items) (shown t x)) shown_here s.items (nothing (unknown_item t) s.items h))) (All-nil ShowsKnown)
  screen_here c (item.File f) h = All-nil ShowsKnown

  screens_in : All ShowsKnown (flat_map (screen_by t) items)
  screens_in =
      All-same ShowsKnown (flat_map (screen_by t) items) (flat_map (λ (n : Numbered). screen_by t n.item) ns) (sym (whatever_number (screen_by t) no_counts items))
      (all_flat ShowsKnown (λ (n : Numbered). screen_by t n.item) ns (each_of (λ (n : Numbered). All ShowsKnown (screen_by t n.item)) ns (λ n at. screen_here n.before n.item (known_at n at))))

  pub in_range : AreInRange (made t items)
  in_range = record {
    parents = parents_in;
    owners = owners_in;
    verbs = sentences_in;
    sources = All-weaker (LeadsWithin t all_entities) (λ (r : Relation). r.source.0 < all_entities) (λ r h. h.0) (relations t items) relations_in;
    targets = All-weaker (LeadsWithin t all_entities) (λ (r : Relation). r.target.0 < all_entities) (λ r h. h.1) (relations t items) relations_in;
    items = screens_in;
    goals = goals_in;
  }

-- ---- how many

screen-short : (t : Tables) (i : Item) → length (screen_by t i) ≤ 1
screen-short t (item.Verb v) = omega arith
screen-short t (item.Entity l) = omega arith
screen-short t (item.Attribute a) = omega arith
screen-short t (item.Relation r) = omega arith
screen-short t (item.Goal g) = omega arith
screen-short t (item.Screen s) = omega arith
screen-short t (item.File f) = omega arith

pub few : (t : Tables) (items : List Item) → length items + 1 < 2 ^ 32 → AreFew (made t items)
few t items h =
    let ns : List Numbered = numbered no_counts items in
    let many : length ns ≡ length items = length-numbered no_counts items in
    record {
      entities = omega (arith, h, many, flat_map_short (entity_in t) (one_entity t) ns);
      attributes = omega (arith, h, many, flat_map_short (attribute_in t) (one_attribute t) ns);
      relations = omega (arith, h, many, flat_map_short (relation_in t) (one_relation t) ns);
      verbs = omega (arith, h, flat_map_short verb_in verb_in-short items);
      screens = omega (arith, h, flat_map_short (screen_by t) (screen-short t) items);
      goals = omega (arith, h, flat_map_short goal_name goal_name-short items, length-map (flat_map goal_name items) (goal_by t));
    }
