-- Each entity lies in an earlier one, by the relation of its own block.
use Rattle.std.proofs.Common.{◌≡◌, ◌∙◌, ◌<◌, ℕ, zero, suc, Bool, true, false, List, [], ◌∷◌, Some, IsTrue, slice_get, All, Contains, refl, sym, ap, subst, arith}
use Rattle.std.proofs.lemmas.List.Elements.{All-nil, All-cons}
use Rattle.opa_model.specs.declared.things.Entity.{Entity}
use Rattle.opa_model.specs.declared.things.Relation.{Relation}
use Rattle.opa_model.specs.Models.{IsContained, IsContainment, IsOverAll}
use Rattle.opa_decl.specs.declared.items.EntityLines.{EntityLines}
use Rattle.opa_decl.specs.declared.items.Item.{Item}
use Rattle.opa_decl.specs.declared.items.Item.TheVariants as item
use Rattle.opa_decl.specs.declared.items.Reach.{Reach}
use Rattle.opa_decl.specs.declared.items.Reach.TheVariants as reach
use Rattle.opa_decl.specs.declared.items.RelationLine.{RelationLine}
use Rattle.opa_decl.specs.declared.numbered.Counts.{Counts}
use Rattle.opa_decl.specs.declared.numbered.Numbered.{Numbered}
use Rattle.opa_decl.specs.Faults.{unknown_names}
use Rattle.opa_decl.specs.Lists.{parent_of, entity_named, source, entity_by, entity_in, relation_by, relation_in}
use Rattle.opa_decl.specs.Names.{Tables}
use Rattle.opa_decl.specs.Numbering.{numbered, no_counts, is_every, is_one}
use Rattle.opa_decl.proofs.MadeLists.{entities, relations, made, AreNamed, AreFaultless}
use Rattle.opa_decl.proofs.NumberedLaws.{each_of, all_flat, stands_in, comes_from}
use Rattle.opa_decl.proofs.RangeLaws.{parent_before, known_at, entities_within}
use Rattle.opa_decl.proofs.ThingLaws.{entities_counted, relations_counted, one_entity, one_relation}

module _ (t : Tables) where
  -- the entity, and the relation, of a block
  abbrev entity_of : Numbered → EntityLines → Entity
  entity_of n l = record { phrase = l.phrase.text; parent = parent_of t l.parent; contained = record { 0 = n.before.relations } }

  abbrev relation_of : Numbered → EntityLines → Relation
  relation_of n l = record { phrase = l.inside.text; source = parent_of t l.parent; target = record { 0 = n.before.entities }; contains = true; one = false; every = false }

  -- what gives an entity is an entity's block
  entity_block_of : (n : Numbered) (i : Item) (e : Entity) → entity_by t n i ≡ e ∷ [] → (l : EntityLines) × (i ≡ item.Entity l) × (entity_of n l ≡ e)
  entity_block_of n (item.Verb v) e h = absurd (cc h)
  entity_block_of n (item.Entity l) e h = (l, refl, (let same : entity_of n l ≡ e = cc h in same))
  entity_block_of n (item.Attribute a) e h = absurd (cc h)
  entity_block_of n (item.Relation r) e h = absurd (cc h)
  entity_block_of n (item.Goal g) e h = absurd (cc h)
  entity_block_of n (item.Screen s) e h = absurd (cc h)
  entity_block_of n (item.File f) e h = absurd (cc h)

  -- and so is what gives a relation that contains
  containing_block_of : (n : Numbered) (i : Item) (r : Relation) → relation_by t n i ≡ r ∷ [] → IsTrue r.contains → (l : EntityLines) × (i ≡ item.Entity l) × (relation_of n l ≡ r)
  containing_block_of n (item.Verb v) r h c = absurd (cc h)
  containing_block_of n (item.Entity l) r h c = (l, refl, (let same : relation_of n l ≡ r = cc h in same))
  containing_block_of n (item.Attribute a) r h c = absurd (cc h)
  containing_block_of n (item.Relation line) r h c =
      let plain : Relation = record { phrase = line.phrase.text; source = source n (is_every line.reach) line.of_global; target = entity_named t line.target.text; contains = false; one = is_one line.reach; every = is_every line.reach } in
      let same : plain ≡ r = cc h in absurd (cc (ap (λ (x : Relation). x.contains) same, c))
  containing_block_of n (item.Goal g) r h c = absurd (cc h)
  containing_block_of n (item.Screen s) r h c = absurd (cc h)
  containing_block_of n (item.File f) r h c = absurd (cc h)

  -- ---- `every` lines

  one_or_every : (r : Reach) → is_every r ≡ true → is_one r ≡ false
  one_or_every reach.One h = absurd (cc h)
  one_or_every reach.Many h = refl
  one_or_every reach.Every h = refl

  over_all_line : (n : Numbered) (line : RelationLine) → is_every line.reach ≡ true → (source n (is_every line.reach) line.of_global).0 ≡ 0
  over_all_line n line h = subst (λ (b : Bool). (source n b line.of_global).0 ≡ 0) (sym h) refl

  abbrev IsOver : Relation → Type 0
  IsOver r = IsTrue r.every → IsOverAll r

  over_all_here : (n : Numbered) (i : Item) → All IsOver (relation_by t n i)
  over_all_here n (item.Verb v) = All-nil IsOver
  over_all_here n (item.Entity l) = All-cons IsOver _ [] (λ h. absurd (cc h)) (All-nil IsOver)
  over_all_here n (item.Attribute a) = All-nil IsOver
  over_all_here n (item.Relation line) =
      All-cons IsOver _ [] (λ h. record { contains_none = refl; to_many = one_or_every line.reach h; from_global = over_all_line n line h; to_another = λ same. omega (arith, same) }) (All-nil IsOver)
  over_all_here n (item.Goal g) = All-nil IsOver
  over_all_here n (item.Screen s) = All-nil IsOver
  over_all_here n (item.File f) = All-nil IsOver

  pub all_over_all : (items : List Item) → All (λ r. IsTrue r.every → IsOverAll r) (relations t items)
  all_over_all items = all_flat IsOver (relation_in t) (numbered no_counts items) (each_of (λ (n : Numbered). All IsOver (relation_in t n)) (numbered no_counts items) (λ n at. over_all_here n n.item))

module _ (t : Tables) (items : List Item) (named : AreNamed t items) (ok : AreFaultless t items) where
  abbrev ns : List Numbered
  ns = numbered no_counts items

  contained_by : (k : ℕ) (e : Entity) (n : Numbered) (l : EntityLines) → Contains ns n → n.item ≡ item.Entity l → n.before.entities ≡ suc k → entity_of t n l ≡ e → IsContained (made t items) (suc k) e
  contained_by k e n l at is number same =
      let known : unknown_names t n.before (item.Entity l) ≡ [] = subst (λ (i : Item). unknown_names t n.before i ≡ []) is (known_at t items named ok n at) in
      let before : (parent_of t l.parent).0 < n.before.entities = parent_before t n.before l.parent known (entities_within t items named ok n at).0 in
      let stands = stands_in (relation_in t) (λ (c : Counts). c.relations) (relations_counted t) no_counts items n (relation_of t n l) at (ap (relation_by t n) is) in
      let place : stands.0 ≡ n.before.relations = omega (arith, stands.1) in
      subst (λ (x : Entity). IsContained (made t items) (suc k) x) same (record {
        earlier = omega (arith, before, number);
        relation = relation_of t n l;
        by_it = ap (slice_get (relations t items)) (sym place) ∙ stands.2;
        contains = refl;
        to_many = refl;
        from_parent = refl;
        to_it = number;
      })

  pub each_contained : (k : ℕ) (e : Entity) → 0 < k → slice_get (entities t items) k ≡ Some e → IsContained (made t items) k e
  each_contained zero e some h = absurd (omega (arith, some))
  each_contained (suc k) e some h =
      let from = comes_from (entity_in t) (λ (c : Counts). c.entities) (entities_counted t) (one_entity t) no_counts items k e h in
      let block = entity_block_of t from.0 from.0.item e from.2 in
      contained_by k e from.0 block.0 from.1 block.1 (omega (arith, from.3)) block.2

  pub each_containment : (k : ℕ) (r : Relation) → slice_get (relations t items) k ≡ Some r → IsTrue r.contains → IsContainment (made t items) k r
  each_containment k r h contains =
      let from = comes_from (relation_in t) (λ (c : Counts). c.relations) (relations_counted t) (one_relation t) no_counts items k r h in
      let n = from.0 in
      let block = containing_block_of t n n.item r from.2 contains in
      let l = block.0 in
      let stands = stands_in (entity_in t) (λ (c : Counts). c.entities) (entities_counted t) no_counts items n (entity_of t n l) from.1 (ap (entity_by t n) block.1) in
      let place : suc stands.0 ≡ n.before.entities = omega (arith, stands.1) in
      subst (λ (x : Relation). IsContainment (made t items) k x) block.2 (record {
        not_the_first = (entities_within t items named ok n from.1).0;
        target = entity_of t n l;
        at_it = ap (slice_get (entities t items)) (sym place) ∙ stands.2;
        by_it = omega (arith, from.3);
      })
